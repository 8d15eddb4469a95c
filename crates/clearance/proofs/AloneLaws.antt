-- Each interval by itself, after either kind, as the margin asks for it: a number that keeps an interval's class is no
-- more than its clearance, and a number that does not is more. Rests on no axiom.
use Rattle.std.proofs.Common.{◌≡◌, ℕ, ◌+◌, ◌<◌, ◌≤◌, Bool, ap, arith}
use native.Mathlib.Decide.{dec_lt}
use Rattle.timing.specs.Profile.{profile_rule}
use Rattle.timing.specs.Class.{cursor_of, class_in, class_of}
use Rattle.timing.specs.declared.Profile.{Profile}
use Rattle.timing.specs.declared.Class.{Class}
use Rattle.timing.specs.declared.Class.TheVariants.{Narrow, Two, Three, Four, Wide}
use Rattle.timing.specs.declared.cursor.Cursor.{Cursor}
use Rattle.clearance.specs.Clearance.{KeepsWithin, ClearanceBy, IsClearance, clearance_of}
use Rattle.clearance.proofs.CursorLaws.{reachable}
use Rattle.clearance.proofs.MostLaws.{clearance_is_the_most, kept_is_within_most, of_clearance}

-- ---- what is no more than a clearance, and what is more

-- a class that has a window
abbrev pub Inner : Class → Type 0
Inner Narrow = ⊥
Inner Two = Unit {0}
Inner Three = Unit {0}
Inner Four = Unit {0}
Inner Wide = ⊥

kept_by_class : (x : Class) (c : Cursor) (d e m : ℕ) → ClearanceBy x c d m → Inner x → KeepsWithin c d e → e ≤ m
kept_by_class Narrow c d e m most inner keeps = absurd inner
kept_by_class Two c d e m most inner keeps = kept_is_within_most most keeps
kept_by_class Three c d e m most inner keeps = kept_is_within_most most keeps
kept_by_class Four c d e m most inner keeps = kept_is_within_most most keeps
kept_by_class Wide c d e m most inner keeps = absurd inner

module _ (p : Profile) (two : Bool) (accepts : (profile_rule p).number ≡ 0) (d : ℕ) where
  pub kept_is_cleared
      : (e : ℕ)
      → Inner (class_of p two d)
      → ((moved : ℕ) → moved ≤ d + e → d ≤ moved + e → class_of p two moved ≡ class_of p two d)
      → e ≤ clearance_of p two d
  unfolding class_of clearance_of IsClearance
  kept_is_cleared e inner keeps =
      kept_by_class (class_in (cursor_of p two) d) (cursor_of p two) d e _
      (clearance_is_the_most (reachable p two accepts) d) inner keeps

  pub broken_is_not_cleared
      : (e moved : ℕ)
      → moved ≤ d + e
      → d ≤ moved + e
      → (class_of p two moved ≡ class_of p two d → ⊥)
      → clearance_of p two d < e
  unfolding class_of clearance_of IsClearance
  broken_is_not_cleared e moved longer shorter breaks =
      -- whatever the class: within its clearance an interval keeps it
      let keeps =
      of_clearance (λ F. F (clearance_of p two d) → KeepsWithin (cursor_of p two) d (clearance_of p two d))
      (class_in (cursor_of p two) d)
      (λ none moved longer shorter. ap (class_in (cursor_of p two)) (omega arith)) (λ most. most.keeps)
      (clearance_is_the_most (reachable p two accepts) d) in
      elim (dec_lt (clearance_of p two d) e) [
        | yes h ↦ h
        | no h ↦ absurd (breaks (keeps moved (omega arith) (omega arith)))
      ]

-- The answer by its tests: a number out of range decides, then that no windows are true; and a refusal hands no profile
-- back. Rests on no axiom.
use Rattle.std.specs.Prelude.{Option, Some, None, is_some, unwrap_or}
use Prim.Native.Nat.{ℕ, suc}
use mathlib.Core.Path.{◌≡◌, refl, sym, ap}
use mathlib.Core.Bool.{Bool, true, false, cond, not, true≢false}
use native.Mathlib.Omega.{arith}
use lib.Dec.{eqb}
use Rattle.lists.specs.Place.{anywhere, lowest, passed}
use Rattle.refusal.specs.Answer.{Answer, accepted, refused, refuse_if}
use Rattle.timing.specs.declared.Profile.{Profile}
use Rattle.best.specs.Best.{unset_of, has_windows, best_margin, best_profile, best_rule, no_profile, best_given}
use Rattle.best.specs.machine.Trial.{lowest_unset_of}
use Rattle.best.specs.declared.Writing.{Writing}

abbrev rule_by : Bool → ℕ → Bool → ℕ → Answer
rule_by any place some margin = refuse_if any 1 (suc place) (refuse_if (not some) 2 0 (accepted margin))

abbrev given_by : Answer → Profile → Profile
given_by a p = cond (eqb a.number 0) p no_profile

module _ (w : Writing) where
  -- a number is out of range
  pub unset_decides : (k : ℕ) → Some k ≡ lowest_unset_of w → (refused 1 k ≡ best_rule w) × (no_profile ≡ best_given w)
  unfolding lowest_unset_of best_given best_rule
  unset_decides k e = by_test (anywhere passed (unset_of w)) (lowest passed (unset_of w)) e
    where
      by_test
          : (any : Bool) (place : ℕ)
          → Some k ≡ cond any (Some (suc place)) None
          → (refused 1 k ≡ rule_by any place (has_windows w) (best_margin w))
          × (no_profile ≡ given_by (rule_by any place (has_windows w) (best_margin w)) (best_profile w))
      by_test true place q = (ap (λ (o : Option ℕ). refused 1 (unwrap_or o 0)) q, refl)
      by_test false place q = absurd (true≢false (ap is_some q))

  -- none is, and some windows are true, or none
  pub possible_decides
      : anywhere passed (unset_of w) ≡ false
      → has_windows w ≡ true
      → (accepted (best_margin w) ≡ best_rule w) × (best_profile w ≡ best_given w)
  unfolding best_given best_rule
  possible_decides none some = (rw (none, some), rw (none, some))

  pub impossible_decides
      : anywhere passed (unset_of w) ≡ false
      → has_windows w ≡ false
      → (refused 2 0 ≡ best_rule w) × (no_profile ≡ best_given w)
  unfolding best_given best_rule
  impossible_decides none some = (rw (none, some), rw (none, some))

  -- ---- and the other way round

  pub record Accepts : Type 0 where
    pub none_unset : anywhere passed (unset_of w) ≡ false
    pub some_true : has_windows w ≡ true
    pub answer : best_rule w ≡ accepted (best_margin w)

  pub accepts : (best_rule w).number ≡ 0 → Accepts
  unfolding best_rule
  accepts e = by_test (anywhere passed (unset_of w)) (has_windows w) refl refl (lowest passed (unset_of w)) e
    where
      by_test
          : (any some : Bool)
          → anywhere passed (unset_of w) ≡ any
          → has_windows w ≡ some
          → (place : ℕ)
          → (rule_by any place some (best_margin w)).number ≡ 0
          → Accepts
      by_test true some p q place h = absurd (omega arith)
      by_test false false p q place h = absurd (omega arith)
      by_test false true p q place h =
          record { none_unset = p; some_true = q; answer = sym (possible_decides p q).0 }

-- The intervals of class 2, 3 or 4 are those from one edge up to the next, so an interval keeps its class as far as the
-- nearer edge and no further; that is one number, and the largest that keeps the class. Rests on no axiom.
use Rattle.std.proofs.Common.{◌≡◌, ℕ, suc, ◌-◌, ◌<◌, ◌≤◌, sym, refl, ◌∙◌, arith}
use native.Mathlib.Decide.{dec_le}
use Rattle.timing.specs.Class.{class_in}
use Rattle.timing.specs.declared.Class.{Class}
use Rattle.timing.specs.declared.Class.TheVariants.{Narrow, Two, Three, Four, Wide}
use Rattle.timing.specs.declared.cursor.Cursor.{Cursor}
use Rattle.timing.proofs.StandLaws.{stands, between_two, between_three, between_four}
use Rattle.timing.proofs.ClassLaws.{below_b23_is_two, below_b34_is_three, below_rpt_is_four}
use Rattle.clearance.specs.Clearance.{KeepsWithin, MostKept, ClearanceBy, IsClearance, in_window, clearance_by}
use Rattle.clearance.specs.Clearance.{clearance_in}
use Rattle.clearance.specs.machine.Nearest.{Reachable}

-- the intervals of a class are those from one edge up to the next
record ClassSpans (c : Cursor) (x : Class) (from to : ℕ) : Type 0 where
  from_positive : 1 ≤ from
  has : (d : ℕ) → from ≤ d → d < to → class_in c d ≡ x
  only : (d : ℕ) → class_in c d ≡ x → (from ≤ d) × (d < to)

module _ {c : Cursor} {x : Class} {from to : ℕ} (s : ClassSpans c x from to) (d : ℕ) (here : class_in c d ≡ x) where
  keeps_to_the_nearer_edge : KeepsWithin c d (in_window from to d)
  keeps_to_the_nearer_edge moved longer shorter =
      let (low, high) = s.only d here in cc (s.has moved (omega arith) (omega arith))

  -- moved by one more, it reaches the interval just below the window or the one just above it
  keeps_no_further : KeepsWithin c d (suc (in_window from to d)) → ⊥
  keeps_no_further keeps =
      let (low, high) = s.only d here in
      elim (dec_le (d - from) (to - 1 - d)) [
        | yes nearer ↦
            let first = s.from_positive in
            let (below, rest) = s.only (from - 1) (keeps (from - 1) (omega arith) (omega arith) ∙ here) in
            omega arith
        | no nearer ↦
            let (rest, above) = s.only to (keeps to (omega arith) (omega arith) ∙ here) in
            omega arith
      ]

  most_is_the_nearer_edge : MostKept c d (in_window from to d)
  most_is_the_nearer_edge = record { keeps = keeps_to_the_nearer_edge; no_more = keeps_no_further }

module _ {c : Cursor} (a : Reachable c) where
  clearance_by_class : (d : ℕ) (x : Class) → class_in c d ≡ x → ClearanceBy x c d (clearance_by x c d)
  clearance_by_class d Narrow here = refl
  clearance_by_class d Two here =
      most_is_the_nearer_edge
      (record {
        from_positive = a.first;
        has = below_b23_is_two c;
        only = λ d e. between_two {c = c} (rw (← e) (stands c d));
      }) d here
  clearance_by_class d Three here =
      most_is_the_nearer_edge (record {
        from_positive = omega arith;
        has = λ d h₁ h₂. below_b34_is_three c d (omega arith) h₁ h₂;
        only = λ d e. between_three {c = c} (rw (← e) (stands c d));
      }) d here
  clearance_by_class d Four here =
      most_is_the_nearer_edge (record {
        from_positive = omega arith;
        has = λ d h₁ h₂. below_rpt_is_four c d (omega arith) (omega arith) h₁ h₂;
        only = λ d e. between_four {c = c} (rw (← e) (stands c d));
      }) d here
  clearance_by_class d Wide here = refl

  pub clearance_is_the_most : (d : ℕ) → IsClearance c d (clearance_in c d)
  unfolding IsClearance clearance_in
  clearance_is_the_most d = clearance_by_class d (class_in c d) refl

-- ---- it is one number, and the largest that keeps the class

pub kept_is_within_most : {c : Cursor} {d e m : ℕ} → MostKept c d m → KeepsWithin c d e → e ≤ m
kept_is_within_most {c} {d} {e} {m} most keeps =
    elim (dec_le e m) [
      | yes h ↦ h
      | no h ↦ absurd (most.no_more (λ moved longer shorter. keeps moved (omega arith) (omega arith)))
    ]

one_most : {c : Cursor} {d e f : ℕ} → MostKept c d e → MostKept c d f → e ≡ f
one_most m n =
    let up = kept_is_within_most n m.keeps in
    let down = kept_is_within_most m n.keeps in
    omega arith

-- what holds of 0 and of the most, holds of a class's clearance
pub of_clearance
    : (P : (ℕ → Type 0) → Type 0) (x : Class) {c : Cursor} {d : ℕ}
    → P (λ e. e ≡ 0)
    → P (MostKept c d)
    → P (ClearanceBy x c d)
of_clearance P Narrow none most = none
of_clearance P Two none most = most
of_clearance P Three none most = most
of_clearance P Four none most = most
of_clearance P Wide none most = none

pub clearance_is_one_number : (c : Cursor) (d e f : ℕ) → IsClearance c d e → IsClearance c d f → e ≡ f
unfolding IsClearance
clearance_is_one_number c d e f m n =
    of_clearance (λ F. F e → F f → e ≡ f) (class_in c d) (λ none zero. none ∙ sym zero) one_most m n

-- The field reader's answer and output from what its first two tests found, and that it uses no more intervals than
-- there are. Rests on no axiom.
use Prim.Native.Nat.{ℕ, ◌≤◌}
use mathlib.Core.Path.{◌≡◌, refl, sym, ◌∙◌}
use mathlib.Core.Bool.{Bool, true, false, cond}
use mathlib.Mathlib.Data.Bool.Basic.{or-eq-false-eq-eq-false-and-eq-false}
use mathlib.Core.List.{List}
use native.Mathlib.Omega.{arith}
use borrow.Author.Tests.{ltb-false, le-ltb, eq-eqb}
use lib.Dec.{eqb, ltb}
use lib.ListN.{length}
use Rattle.lists.proofs.StoreLaws.{stored_at_front_fills, stored_over_all}
use Rattle.refusal.specs.Table.{number_of, place_of}
use Rattle.refusal.specs.Answer.{Answer, refused}
use Rattle.refusal.specs.declared.Refusal.{Refusal}
use Rattle.refusal.proofs.AnswerLaws.{number_is_not_zero, acceptance_fills_the_buffer}
use Rattle.timing.specs.Profile.{outside, profile_rule}
use Rattle.timing.specs.Class.{classes_of}
use Rattle.timing.specs.declared.Profile.{Profile}
use Rattle.timing.specs.declared.Class.{Class}
use Rattle.timing.proofs.ClassLaws.{classes_length}
use Rattle.fields.specs.Field.{field_used, field_items, field_holds}
use Rattle.fields.specs.FieldRule.{FieldAnswer, field_turned_away, field_rule, field_reading, field_output, answer_with}
use Rattle.fields.specs.machine.Gather.{checked_reading, checked_output}
use Rattle.fields.proofs.FieldLaws.{field_used_at_most, field_items_count}
use Rattle.fields.proofs.RuleLaws.{rule_is_checked, gather_stops_nowhere, gather_accepts}

-- the answer is the rule's, whatever comes with it
pub answer_is_its_rule : (a : Answer) (used : ℕ) (holds : Bool) → (answer_with a used holds).answer ≡ a
answer_is_its_rule a used holds =
    elim (eqb a.number 0) as (λ t.
    (cond t (record { answer = a; used = used; holds = holds }) (field_turned_away a)).answer ≡ a)
    [ true ↦ refl | false ↦ refl ]

-- under an accepted profile, of a count in range
pub checked_reads
    : (p : Profile) (ds : List ℕ) (n room : ℕ)
    → (profile_rule p).number ≡ 0
    → outside 1 1030 n ≡ false
    → checked_reading (classes_of p ds) n room ≡ field_reading p ds n room
unfolding field_reading checked_reading
checked_reads p ds n room fair h = rw (rule_is_checked p ds n room, eq-eqb _ 0 fair, h)

module _ (p : Profile) (ds : List ℕ) (n : ℕ) (old : List ℕ) where
  abbrev Settles : FieldAnswer → List ℕ → Type 0
  Settles answer new = (answer ≡ field_reading p ds n (length old)) × (new ≡ field_output p ds n old)

  pub profile_refuses
      : (r : Refusal)
      → refused (number_of r) (place_of r) ≡ profile_rule p
      → Settles (field_turned_away (refused (number_of r) (place_of r))) old
  unfolding field_reading field_output field_rule
  profile_refuses r e = rw (← e, number_is_not_zero r, number_is_not_zero r) (refl, refl)

  module _ (fair : (profile_rule p).number ≡ 0) where
    pub count_refuses : outside 1 1030 n ≡ true → Settles (field_turned_away (refused 12 0)) old
    unfolding field_reading field_output field_rule
    count_refuses h = rw (eq-eqb _ 0 fair, h) (refl, refl)

    pub checked_settles
        : outside 1 1030 n ≡ false
        → Settles (checked_reading (classes_of p ds) n (length old)) (checked_output (classes_of p ds) n old)
    unfolding field_output checked_output
    checked_settles h =
        (checked_reads p ds n (length old) fair h, rw (rule_is_checked p ds n (length old), eq-eqb _ 0 fair, h))

pub count_in_range : (n : ℕ) → outside 1 1030 n ≡ false → (1 ≤ n) × (n ≤ 1030)
count_in_range n h =
    let both = (or-eq-false-eq-eq-false-and-eq-false (ltb n 1) (ltb 1030 n)).0 h in
    (ltb-false n 1 both.0, ltb-false 1030 n both.1)

pub range_of_count : (n : ℕ) → 1 ≤ n → n ≤ 1030 → outside 1 1030 n ≡ false
range_of_count n low high = rw (le-ltb n 1 low, le-ltb 1030 n high)

-- ---- a buffer as long as the field, where it is accepted

pub output_is_items
    : (p : Profile) (ds : List ℕ) (n : ℕ) (old : List ℕ)
    → (field_rule p ds n n).number ≡ 0
    → length old ≡ n
    → field_output p ds n old ≡ field_items (classes_of p ds) n
unfolding field_output
output_is_items p ds n old accepts e =
    let cs : List Class = classes_of p ds in
    let count = field_items_count cs n (gather_stops_nowhere cs n (gather_accepts p ds n n accepts)) in
    rw e (acceptance_fills_the_buffer (field_rule p ds n n) (field_items cs n) old accepts
    ∙ sym (stored_at_front_fills (field_items cs n) old (omega arith))
    ∙ stored_over_all (field_items cs n) old (omega arith))

-- ---- the used intervals are in the list

used_or_none
    : (t : Bool) (a : Answer) (used most : ℕ) (holds : Bool)
    → used ≤ most
    → (cond t (record { answer = a; used = used; holds = holds }) (field_turned_away a)).used ≤ most
used_or_none true a used most holds h = h
used_or_none false a used most holds h = omega arith

pub used_is_within : (p : Profile) (ds : List ℕ) (n room : ℕ) → (field_reading p ds n room).used ≤ length ds
unfolding field_reading
used_is_within p ds n room =
    used_or_none (eqb (field_rule p ds n room).number 0) (field_rule p ds n room) (field_used (classes_of p ds) n)
    (length ds) (field_holds (classes_of p ds) n) (rw (← classes_length p ds) (field_used_at_most (classes_of p ds) n))

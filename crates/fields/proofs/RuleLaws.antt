-- The field reader's tests in their turn: a refusal of the pass decides, and an acceptance leaves the room in the
-- output. Rests on no axiom.
use Prim.Native.Nat.{ℕ, ◌≤◌}
use mathlib.Core.Path.{◌≡◌, refl, sym, ap, ◌∙◌}
use mathlib.Core.Bool.{Bool, true, false}
use mathlib.Core.List.{List}
use native.Mathlib.Omega.{arith}
use borrow.Author.Tests.{le-ltb}
use lib.ListN.{length, take}
use Rattle.lists.proofs.StoreLaws.{front_of_stored}
use Rattle.refusal.specs.Table.{number_of, place_of}
use Rattle.refusal.specs.Answer.{Answer, accepted, refused, refuse_if, first_refusal}
use Rattle.refusal.specs.declared.Refusal.{Refusal}
use Rattle.refusal.proofs.AnswerLaws.{number_is_not_zero, first_refusal_accepts, first_refusal_passes}
use Rattle.refusal.proofs.AnswerLaws.{first_refusal_of_first, refuse_if_accepts, refuse_if_passes}
use Rattle.timing.specs.Profile.{outside, profile_rule}
use Rattle.timing.specs.Class.{classes_of}
use Rattle.timing.specs.declared.Profile.{Profile}
use Rattle.timing.specs.declared.Class.{Class}
use Rattle.fields.specs.Field.{field_stop, field_used, field_items, field_stray, field_stray_place}
use Rattle.fields.specs.FieldRule.{field_turned_away, field_rule}
use Rattle.fields.specs.machine.Gather.{gather_rule, GathersItems, TellsSum, deliver_rule, deliver_reading}
use Rattle.fields.specs.machine.Gather.{deliver_output, checked_rule, checked_reading, checked_output}
use Rattle.fields.proofs.FieldLaws.{field_items_count}

module _ (cs : List Class) (n : ℕ) where
  pub gather_stops_nowhere : (gather_rule cs n).number ≡ 0 → (field_stop cs n).number ≡ 0
  unfolding gather_rule
  gather_stops_nowhere e = (first_refusal_accepts (field_stop cs n) _ e).0

  pub gather_meets_no_stray : (gather_rule cs n).number ≡ 0 → field_stray cs n ≡ false
  unfolding gather_rule
  gather_meets_no_stray e =
      (refuse_if_accepts (field_stray cs n) 7 (field_stray_place cs n) _ (first_refusal_accepts (field_stop cs n) _ e).1).0

  pub gather_counts_used : (gather_rule cs n).number ≡ 0 → gather_rule cs n ≡ accepted (field_used cs n)
  unfolding gather_rule
  gather_counts_used e =
      first_refusal_passes (field_stop cs n) _ (gather_stops_nowhere e)
      ∙ refuse_if_passes (field_stray cs n) 8 (field_stray_place cs n) _ (gather_meets_no_stray e)

  -- a refusal of the pass is the answer, and the output is as it was
  module _ (r : Refusal) (e : refused (number_of r) (place_of r) ≡ gather_rule cs n) where
    pub gather_refuses : (room : ℕ) → field_turned_away (refused (number_of r) (place_of r)) ≡ checked_reading cs n room
    unfolding checked_reading checked_rule
    gather_refuses room = rw (← e, number_is_not_zero r, number_is_not_zero r)

    pub gather_keeps : (old : List ℕ) → old ≡ checked_output cs n old
    unfolding checked_output checked_rule
    gather_keeps old = rw (← e, number_is_not_zero r, number_is_not_zero r)

  -- an acceptance leaves the room to what was gathered
  module _ (used : ℕ) (holds : Bool) (e : accepted used ≡ gather_rule cs n) (sum : TellsSum cs n holds) where
    accepts : (gather_rule cs n).number ≡ 0
    accepts = sym (ap (λ (a : Answer). a.number) e)

    used_is : used ≡ field_used cs n
    used_is = ap (λ (a : Answer). a.count) (e ∙ gather_counts_used accepts)

    pub gather_reads : (room : ℕ) → deliver_reading n used holds room ≡ checked_reading cs n room
    unfolding deliver_reading checked_reading checked_rule
    gather_reads room =
        rw (first_refusal_passes (gather_rule cs n) (deliver_rule n room) accepts, used_is, sum accepts)

    pub gather_delivers
        : (buffer stored old : List ℕ)
        → n ≤ length buffer
        → GathersItems cs n buffer stored
        → deliver_output (take n stored) old ≡ checked_output cs n old
    unfolding deliver_output checked_output checked_rule
    gather_delivers buffer stored old room store =
        let count : length (field_items cs n) ≡ n = field_items_count cs n (gather_stops_nowhere accepts) in
        let same : take n stored ≡ field_items cs n =
        ap (take n) (store accepts) ∙ front_of_stored (field_items cs n) buffer n count room in
        rw (first_refusal_passes (gather_rule cs n) (deliver_rule n (length old)) accepts, same, count)

-- ---- what the parts have to do with the rule

-- a test that passes goes before what comes later, whatever it would have counted
test_first
    : (t : Bool) (place k : ℕ) (later : Answer)
    → refuse_if t 8 place later ≡ first_refusal (refuse_if t 8 place (accepted k)) later
test_first true place k later = refl
test_first false place k later = refl

-- under an accepted profile, of a count in range
pub rule_is_checked
    : (p : Profile) (ds : List ℕ) (n room : ℕ)
    → field_rule p ds n room
    ≡ first_refusal (profile_rule p) (refuse_if (outside 1 1030 n) 12 0 (checked_rule (classes_of p ds) n room))
unfolding field_rule checked_rule gather_rule deliver_rule
rule_is_checked p ds n room =
    let cs = classes_of p ds in
    ap (λ (a : Answer). first_refusal (profile_rule p) (refuse_if (outside 1 1030 n) 12 0 a))
    (ap (first_refusal (field_stop cs n)) (test_first (field_stray cs n) (field_stray_place cs n) (field_used cs n) _)
    ∙ first_refusal_of_first (field_stop cs n) _ _)

-- an acceptance of the field is one of the pass
pub gather_accepts
    : (p : Profile) (ds : List ℕ) (n room : ℕ)
    → (field_rule p ds n room).number ≡ 0
    → (gather_rule (classes_of p ds) n).number ≡ 0
unfolding checked_rule
gather_accepts p ds n room e =
    let after_2 = (first_refusal_accepts (profile_rule p) _ (rw (rule_is_checked p ds n room) at e)).1 in
    let after_12 = (refuse_if_accepts (outside 1 1030 n) 11 0 _ after_2).1 in
    (first_refusal_accepts (gather_rule (classes_of p ds) n) _ after_12).0

-- with room for all
pub delivers_all
    : (n used : ℕ) (holds : Bool)
    → record { answer = accepted n; used = used; holds = holds } ≡ deliver_reading n used holds n
unfolding deliver_reading deliver_rule
delivers_all n used holds = rw (le-ltb n n (omega arith))

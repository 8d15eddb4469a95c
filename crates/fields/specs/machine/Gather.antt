-- Machine, not meaning: laws tie it to FieldRule (`proofs/RuleLaws`, `proofs/ReaderLaws`). What the functions of the
-- field reader hand to each other. No lemmas here.
use Rattle.std.specs.Prelude.{ℕ, ◌≡◌, Bool, List, ltb, length}
use Rattle.lists.specs.Filled.{stored_at}
use Rattle.refusal.specs.Answer.{Answer, accepted, refuse_if, first_refusal, settled}
use Rattle.timing.specs.declared.Class.{Class}
use Rattle.fields.specs.Field.{field_stop, field_used, field_items, field_holds, field_stray, field_stray_place}
use Rattle.fields.specs.FieldRule.{FieldAnswer, answer_with}

-- 5, 6 or 11 as first met, then 8; else the number of intervals used
unfoldable pub gather_rule : List Class → ℕ → Answer
gather_rule cs n =
    first_refusal (field_stop cs n)
    (refuse_if (field_stray cs n) 8 (field_stray_place cs n)
    (accepted (field_used cs n)))

-- what the pass leaves in its buffer and tells of the register, where it is accepted
abbrev pub GathersItems : List Class → ℕ → List ℕ → List ℕ → Type 0
GathersItems cs n old new = (gather_rule cs n).number ≡ 0 → new ≡ stored_at old 0 (field_items cs n)

abbrev pub TellsSum : List Class → ℕ → Bool → Type 0
TellsSum cs n holds = (gather_rule cs n).number ≡ 0 → holds ≡ field_holds cs n

-- 9; else the number of items: the answer and the output for items that are ready
unfoldable pub deliver_rule : ℕ → ℕ → Answer
deliver_rule n room = refuse_if (ltb room n) 9 0 (accepted n)

unfoldable pub deliver_reading : ℕ → ℕ → Bool → ℕ → FieldAnswer
deliver_reading n used holds room = answer_with (deliver_rule n room) used holds

unfoldable pub deliver_output : List ℕ → List ℕ → List ℕ
deliver_output items old = settled (deliver_rule (length items) (length old)) items old

-- both: the answer and the output under an accepted profile, of a count in range
unfoldable pub checked_rule : List Class → ℕ → ℕ → Answer
checked_rule cs n room = first_refusal (gather_rule cs n) (deliver_rule n room)

unfoldable pub checked_reading : List Class → ℕ → ℕ → FieldAnswer
checked_reading cs n room = answer_with (checked_rule cs n room) (field_used cs n) (field_holds cs n)

unfoldable pub checked_output : List Class → ℕ → List ℕ → List ℕ
checked_output cs n old = settled (checked_rule cs n (length old)) (field_items cs n) old

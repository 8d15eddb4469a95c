-- Document 01, "Turned-away numbers", field: 1, 2, 12, then 5, 6 or 11 as first met, 8, 9. No lemmas here.
use Rattle.std.specs.Prelude.{ℕ, ◌+◌, ◌*◌, Bool, false, cond, List, Result, Ok, Err, eqb, ltb, length, drop}
use Rattle.refusal.specs.Table.{number_of, place_of}
use Rattle.refusal.specs.Answer.{Answer, accepted, refused, refuse_if, first_refusal, settled}
use Rattle.refusal.specs.declared.Refusal.{Refusal}
use Rattle.timing.specs.Profile.{outside, profile_rule}
use Rattle.timing.specs.Class.{classes_of}
use Rattle.timing.specs.declared.Profile.{Profile}
use Rattle.fields.specs.Field.{field_stop, field_used, field_items, field_holds, field_stray, field_stray_place}
use Rattle.fields.specs.declared.reader.Field.{Field}

-- the field reader's number, place and count
unfoldable pub field_rule : Profile → List ℕ → ℕ → ℕ → Answer
field_rule p ds n room =
    first_refusal (profile_rule p)
    (refuse_if (outside 1 1030 n) 12 0
    (first_refusal (field_stop (classes_of p ds) n)
    (refuse_if (field_stray (classes_of p ds) n) 8 (field_stray_place (classes_of p ds) n)
    (refuse_if (ltb room n) 9 0
    (accepted n)))))

-- with the number of intervals used, and whether the register is zero after the items: 0 and no on a refusal
pub record FieldAnswer : Type 0 where
  pub answer : Answer
  pub used : ℕ
  pub holds : Bool

abbrev pub field_turned_away : Answer → FieldAnswer
field_turned_away a = record { answer = a; used = 0; holds = false }

-- the field reader's answer, as it is declared
abbrev pub field_answer : Result Field Refusal → FieldAnswer
field_answer (Ok f) = record { answer = accepted f.count; used = f.used; holds = f.holds }
field_answer (Err r) = field_turned_away (refused (number_of r) (place_of r))

-- and as the rules give it
abbrev pub answer_with : Answer → ℕ → Bool → FieldAnswer
answer_with a used holds =
    cond (eqb a.number 0) (record { answer = a; used = used; holds = holds }) (field_turned_away a)

unfoldable pub field_reading : Profile → List ℕ → ℕ → ℕ → FieldAnswer
field_reading p ds n room =
    answer_with (field_rule p ds n room) (field_used (classes_of p ds) n) (field_holds (classes_of p ds) n)

-- what the output holds afterwards
unfoldable pub field_output : Profile → List ℕ → ℕ → List ℕ → List ℕ
field_output p ds n old = settled (field_rule p ds n (length old)) (field_items (classes_of p ds) n) old

-- the rest of the caller's list, from the first unused interval; on a refusal, the whole list
unfoldable pub field_rest : Profile → List ℕ → ℕ → ℕ → List ℕ
field_rest p ds n room = drop (field_reading p ds n room).used ds

-- of the caller's own list: it stands in the same block of memory, two bytes on for each interval used
abbrev pub rest_place : Profile → List ℕ → ℕ → ℕ → ℕ × ℕ → ℕ × ℕ
rest_place p ds n room start = (start.0, start.1 + (field_reading p ds n room).used * 2)

-- Document 02, (vi): class, strip and field, each answered with its clearance: the class of an interval with its own,
-- strip and field with the least over the intervals that they used. On a refusal it is 0. No lemmas here.
use Rattle.std.specs.Prelude.{ℕ, Bool, cond, List, Result, Ok, Err, take, ◌==◌}
use Rattle.refusal.specs.Answer.{Answer, counted_answer}
use Rattle.refusal.specs.declared.Refusal.{Refusal}
use Rattle.timing.specs.Class.{class_rule}
use Rattle.timing.specs.declared.Profile.{Profile}
use Rattle.codec.specs.Reader.{read_rule}
use Rattle.fields.specs.FieldRule.{FieldAnswer, field_answer, field_reading}
use Rattle.fields.specs.declared.reader.Field.{Field}
use Rattle.clearance.specs.Clearance.{clearance_of, least_clearance}
use Rattle.clearance.specs.declared.Clear.{Clear}

-- none on a refusal
abbrev pub clearance_for : Answer → ℕ → ℕ
clearance_for a e = cond (a.number == 0) e 0

-- number, place and count, with the clearance
pub record ClearAnswer : Type 0 where
  pub answer : Answer
  pub clearance : ℕ

-- as it is declared, and as the rules give it
abbrev pub clear_answer : Result (Clear ℕ) Refusal → ClearAnswer
clear_answer (Ok c) = record { answer = counted_answer (Ok c.read); clearance = c.clearance }
clear_answer (Err r) = record { answer = counted_answer (Err r); clearance = 0 }

abbrev pub with_clearance : Answer → ℕ → ClearAnswer
with_clearance a e = record { answer = a; clearance = clearance_for a e }

-- the class of an interval, told whether the one before was of class 2
unfoldable pub class_with_clearance : Profile → Bool → ℕ → ClearAnswer
class_with_clearance p two d = with_clearance (class_rule p two d) (clearance_of p two d)

-- a strip, all of whose intervals are used
unfoldable pub strip_with_clearance : Profile → List ℕ → ℕ → ClearAnswer
strip_with_clearance p ds room = with_clearance (read_rule p ds room) (least_clearance p ds)

-- all that the field reader's first entry gives beside its output
pub record ClearFieldAnswer : Type 0 where
  pub reading : FieldAnswer
  pub clearance : ℕ

abbrev pub clear_field_answer : Result (Clear Field) Refusal → ClearFieldAnswer
clear_field_answer (Ok f) = record { reading = field_answer (Ok f.read); clearance = f.clearance }
clear_field_answer (Err r) = record { reading = field_answer (Err r); clearance = 0 }

abbrev pub least_used : Profile → List ℕ → FieldAnswer → ℕ
least_used p ds f = clearance_for f.answer (least_clearance p (take f.used ds))

unfoldable pub field_with_clearance : Profile → List ℕ → ℕ → ℕ → ClearFieldAnswer
field_with_clearance p ds n room =
    record { reading = field_reading p ds n room; clearance = least_used p ds (field_reading p ds n room) }

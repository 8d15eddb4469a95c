-- Document 02, (xi): n bytes at the first lock from a start, answered as the field reader does, places counted from the
-- lock. Its order is 1, 2, 10, 18, 12, then 5, 6 or 11 as first met, 8, 9. No lemmas here.
use Rattle.std.specs.Prelude.{ℕ, cond, List, Result, Ok, Err, eqb, ℤ, pos, length}
use Rattle.refusal.specs.Table.{number_of, place_of}
use Rattle.refusal.specs.Answer.{Answer, refused, first_refusal, settled}
use Rattle.refusal.specs.declared.Refusal.{Refusal}
use Rattle.timing.specs.Class.{classes_of}
use Rattle.timing.specs.declared.Profile.{Profile}
use Rattle.locks.specs.Lock.{find_rule}
use Rattle.fields.specs.Field.{field_items}
use Rattle.fields.specs.FieldRule.{field_turned_away, field_rule}
use Rattle.clearance.specs.Answers.{ClearFieldAnswer, clear_field_answer, field_with_clearance}
use Rattle.pace.specs.Pace.{difference}
use Rattle.speed.specs.Speed.{s0, s1, nominal, speed_rule, corrected_at}
use Rattle.speed.specs.declared.reader.Corrected.{Corrected}

-- all that the entry gives beside its output: what the field reader gives, the lock's place, and both differences
pub record CorrectedAnswer : Type 0 where
  pub field : ClearFieldAnswer
  pub lock : ℕ
  pub even : ℤ
  pub odd : ℤ

-- on a refusal all but number and place is 0
abbrev pub turned_away : Answer → CorrectedAnswer
turned_away a =
    record { field = record { reading = field_turned_away a; clearance = 0 }; lock = 0; even = pos 0; odd = pos 0 }

-- as it is declared
abbrev pub corrected_answer : Result Corrected Refusal → CorrectedAnswer
corrected_answer (Ok c) =
    record { field = clear_field_answer (Ok c.field); lock = c.lock; even = c.even; odd = c.odd }
corrected_answer (Err r) = turned_away (refused (number_of r) (place_of r))

-- ---- at a lock

-- 18, then the field reader's tests of the corrected numbers
unfoldable pub rule_at : Profile → List ℕ → ℕ → ℕ → ℕ → Answer
rule_at p ds lock n room = first_refusal (speed_rule p ds lock) (field_rule p (corrected_at p ds lock) n room)

-- what comes with an answer
abbrev pub comes_with : Answer → Profile → List ℕ → ℕ → ℕ → ℕ → CorrectedAnswer
comes_with a p ds lock n room =
    cond (eqb a.number 0)
    (record {
      field = field_with_clearance p (corrected_at p ds lock) n room;
      lock = lock;
      even = difference (nominal p) (s0 ds lock);
      odd = difference (nominal p) (s1 ds lock);
    })
    (turned_away a)

unfoldable pub reading_at : Profile → List ℕ → ℕ → ℕ → ℕ → CorrectedAnswer
reading_at p ds lock n room = comes_with (rule_at p ds lock n room) p ds lock n room

unfoldable pub output_at : Profile → List ℕ → ℕ → ℕ → List ℕ → List ℕ
output_at p ds lock n old =
    settled (rule_at p ds lock n (length old)) (field_items (classes_of p (corrected_at p ds lock)) n) old

-- ---- the entry

-- the first lock from a start, found in the intervals as they are
abbrev pub lock_of : Profile → List ℕ → ℕ → ℕ
lock_of p ds start = (find_rule p ds start).count

unfoldable pub corrected_rule : Profile → List ℕ → ℕ → ℕ → ℕ → Answer
corrected_rule p ds start n room =
    first_refusal (find_rule p ds start) (rule_at p ds (lock_of p ds start) n room)

unfoldable pub corrected_reading : Profile → List ℕ → ℕ → ℕ → ℕ → CorrectedAnswer
corrected_reading p ds start n room = comes_with (corrected_rule p ds start n room) p ds (lock_of p ds start) n room

unfoldable pub corrected_output : Profile → List ℕ → ℕ → ℕ → List ℕ → List ℕ
corrected_output p ds start n old =
    settled (corrected_rule p ds start n (length old))
    (field_items (classes_of p (corrected_at p ds (lock_of p ds start))) n) old

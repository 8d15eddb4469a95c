-- Machine, not meaning: laws tie it to Reading (`proofs/ReadLaws`). No lemmas here.
-- What the functions of the reader hand to each other.
use Rattle.std.specs.Prelude.{ℕ, cond, List, eqb}
use Rattle.timing.specs.Class.{classes_of}
use Rattle.timing.specs.declared.Profile.{Profile}
use Rattle.fields.specs.FieldRule.{FieldAnswer}
use Rattle.fields.specs.machine.Gather.{checked_reading}
use Rattle.clearance.specs.Answers.{ClearFieldAnswer, clearance_for, least_used}
use Rattle.pace.specs.Pace.{difference}
use Rattle.pace.specs.declared.Pace.{Pace}
use Rattle.speed.specs.Reading.{CorrectedAnswer, turned_away}

-- a field with a clearance, a refusal without
abbrev pub cleared_by : FieldAnswer → ℕ → ClearFieldAnswer
cleared_by f e = record { reading = f; clearance = clearance_for f.answer e }

-- under an accepted profile, of a count in range
unfoldable pub checked_with_clearance : Profile → List ℕ → ℕ → ℕ → ClearFieldAnswer
checked_with_clearance p ds n room =
    let read = checked_reading (classes_of p ds) n room in
    record { reading = read; clearance = least_used p ds read }

-- with the lock's place and the differences
abbrev pub told_by : Pace → ℕ → ClearFieldAnswer → CorrectedAnswer
told_by pace lock f =
    cond (eqb f.reading.answer.number 0)
    (record {
      field = f;
      lock = lock;
      even = difference pace.nominal pace.even;
      odd = difference pace.nominal pace.odd;
    })
    (turned_away f.reading.answer)

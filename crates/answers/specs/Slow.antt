-- The C interface: the answer of the corrected entry as it crosses it. No lemmas here.
use Rattle.lists.specs.YesNo.{as_number}
use Rattle.speed.specs.Reading.{CorrectedAnswer}
use Rattle.answers.specs.declared.slow.IsmCorrected.{IsmCorrected}

-- number, place and count of document 01, with what else the entry gives
abbrev pub corrected_answer_of : CorrectedAnswer → IsmCorrected
corrected_answer_of a =
    record {
      number = a.field.reading.answer.number;
      place = a.field.reading.answer.place;
      lock = a.lock;
      count = a.field.reading.answer.count;
      used = a.field.reading.used;
      holds = as_number a.field.reading.holds;
      clearance = a.field.clearance;
      even = a.even;
      odd = a.odd;
    }

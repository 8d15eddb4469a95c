-- The C interface of the pages: an answer as it crosses it. No lemmas here.
use Rattle.merge.specs.Rule.{MergeAnswer}
use Rattle.ism_page.specs.declared.IsmAnswer.{IsmAnswer}

-- the sectors made, with the bytes stored; the rest 0
abbrev pub given_set : MergeAnswer → IsmAnswer
given_set m =
    record {
      number = m.answer.number;
      place = m.answer.place;
      count = m.answer.count;
      used = m.stored;
      holds = 0;
      clearance = 0;
    }

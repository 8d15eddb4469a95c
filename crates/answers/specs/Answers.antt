-- The C interface: a profile and an answer as they cross it. No lemmas here.
use Rattle.std.specs.Prelude.{ℕ, List, [], ◌∷◌}
use Rattle.lists.specs.YesNo.{as_number}
use Rattle.refusal.specs.Answer.{Answer}
use Rattle.timing.specs.Numbers.{from_numbers}
use Rattle.timing.specs.declared.Profile.{Profile}
use Rattle.merge.specs.Rule.{MergeAnswer}
use Rattle.clearance.specs.Answers.{ClearAnswer, ClearFieldAnswer}
use Rattle.answers.specs.declared.IsmProfile.{IsmProfile}
use Rattle.answers.specs.declared.IsmAnswer.{IsmAnswer}

-- its numbers, in document 02's order
abbrev pub profile_numbers_of : IsmProfile → List ℕ
profile_numbers_of p =
    p.t1 ∷ p.t0 ∷ p.early ∷ p.normal ∷ p.late ∷ p.min ∷ p.b23_short ∷ p.b23_long
    ∷ p.b34_short ∷ p.b34_long ∷ p.rpt ∷ []

abbrev pub profile_of : IsmProfile → Profile
profile_of p = from_numbers (profile_numbers_of p)

-- number, place and count of document 01, the rest 0
abbrev pub answer_of : Answer → IsmAnswer
answer_of a =
    record { number = a.number; place = a.place; count = a.count; used = 0; holds = 0; clearance = 0 }

-- a class or a strip, with its clearance
abbrev pub clear_answer_of : ClearAnswer → IsmAnswer
clear_answer_of a =
    record {
      number = a.answer.number;
      place = a.answer.place;
      count = a.answer.count;
      used = 0;
      holds = 0;
      clearance = a.clearance;
    }

-- a field, with the intervals used, whether the register is zero, and the clearance
abbrev pub clear_field_answer_of : ClearFieldAnswer → IsmAnswer
clear_field_answer_of f =
    record {
      number = f.reading.answer.number;
      place = f.reading.answer.place;
      count = f.reading.answer.count;
      used = f.reading.used;
      holds = as_number f.reading.holds;
      clearance = f.clearance;
    }

-- the merge's, with the bytes stored
abbrev pub given_merge : MergeAnswer → IsmAnswer
given_merge m =
    record {
      number = m.answer.number;
      place = m.answer.place;
      count = m.answer.count;
      used = m.stored;
      holds = 0;
      clearance = 0;
    }

-- The C interface: the best windows, as they cross it. No lemmas here.
use Rattle.refusal.specs.Answer.{Answer}
use Rattle.timing.specs.declared.Profile.{Profile}
use Rattle.answers.specs.declared.IsmProfile.{IsmProfile}
use Rattle.answers.specs.declared.windows.IsmBest.{IsmBest}

-- a profile number by number
abbrev pub crossing : Profile → IsmProfile
crossing p =
    record {
      t1 = p.t1.0;
      t0 = p.t0.0;
      early = p.early.0;
      normal = p.normal.0;
      late = p.late.0;
      min = p.min.0;
      b23_short = p.short.b23.0;
      b23_long = p.long.b23.0;
      b34_short = p.short.b34.0;
      b34_long = p.long.b34.0;
      rpt = p.rpt.0;
    }

-- number and place of document 01, the margin, and the profile that has it
abbrev pub best_answer_of : Answer → Profile → IsmBest
best_answer_of a p = record { number = a.number; place = a.place; margin = a.count; profile = crossing p }

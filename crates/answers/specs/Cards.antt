-- The C interface: what holds the margin down, as it crosses it. No lemmas here.
use Rattle.std.specs.Prelude.{ℕ, List, map, take, replicate}
use Rattle.lists.specs.Filled.{filled}
use Rattle.lists.specs.YesNo.{as_number}
use Rattle.refusal.specs.Answer.{Answer}
use Rattle.limits.specs.declared.side.Edge.{Edge}
use Rattle.limits.specs.declared.side.Edge.TheVariants.{Min, B23, B34, Rpt}
use Rattle.limits.specs.declared.side.Kind.{Kind}
use Rattle.limits.specs.declared.side.Kind.TheVariants.{Both, Short, Long}
use Rattle.limits.specs.declared.Limit.{Limit}
use Rattle.answers.specs.declared.card.IsmLimit.{IsmLimit}
use Rattle.answers.specs.declared.card.IsmLimits.{IsmLimits}

abbrev pub edge_number : Edge → ℕ
edge_number Min = 1
edge_number B23 = 2
edge_number B34 = 3
edge_number Rpt = 4

abbrev pub kind_number : Kind → ℕ
kind_number Both = 0
kind_number Short = 1
kind_number Long = 2

-- a side and its evidence as six numbers
abbrev pub limit_numbers : Limit → IsmLimit
limit_numbers x =
    record {
      edge = edge_number x.side.edge;
      after = kind_number x.side.after;
      above = as_number x.side.above;
      item = x.item;
      interval = x.interval;
      moved = x.moved;
    }

abbrev pub no_limit : IsmLimit
no_limit = record { edge = 0; after = 0; above = 0; item = 0; interval = 0; moved = 0 }

-- number and place of document 01, how many limits, and these; the places beyond the count are all 0
abbrev pub limits_answer_of : Answer → List Limit → IsmLimits
limits_answer_of a limits =
    record {
      number = a.number;
      place = a.place;
      count = a.count;
      limits = filled (map limit_numbers (take a.count limits)) (replicate 10 no_limit);
    }

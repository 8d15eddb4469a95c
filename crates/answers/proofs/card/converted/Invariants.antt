use mathlib.Core.Path.{◌≡◌}
use mathlib.Core.List.{map}
use lib.ListN.{take, replicate}
use Rattle.lists.specs.Filled.{stored_at}
use Rattle.answers.specs.Cards.{limit_numbers, no_limit}
use Rattle.answers.proofs.card.converted.Given as goal

abbrev pub invariant-loop-k : goal.invariant-loop-k
invariant-loop-k l = l.made ≡ stored_at (replicate 10 no_limit) 0 (map limit_numbers (take l.k l.limits))

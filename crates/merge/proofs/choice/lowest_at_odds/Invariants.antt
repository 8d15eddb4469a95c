use Prim.Native.Nat.{◌+◌, ◌≤◌}
use mathlib.Core.Path.{◌≡◌}
use lib.ListN.{drop}
use Rattle.lists.specs.Place.{lowest}
use Rattle.sets.specs.Set.{sectors_in}
use Rattle.sets.specs.Held.{numbers}
use Rattle.merge.specs.Merge.{at_odds_at}
use Rattle.merge.proofs.choice.lowest_at_odds.Given as goal

abbrev pub invariant-loop-n : goal.invariant-loop-n
invariant-loop-n l =
    (l.n ≤ 256)
    × (l.n + lowest (at_odds_at (sectors_in l.first) (sectors_in l.second)) (drop l.n numbers)
    ≡ lowest (at_odds_at (sectors_in l.first) (sectors_in l.second)) numbers)

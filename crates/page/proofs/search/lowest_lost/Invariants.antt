use Prim.Native.Nat.{◌+◌}
use mathlib.Core.Path.{◌≡◌}
use lib.ListN.{drop}
use Rattle.lists.specs.Place.{lowest}
use Rattle.sets.specs.Set.{sectors_in}
use Rattle.page.specs.Page.{page_numbers}
use Rattle.page.specs.Reading.{lost_at}
use Rattle.page.proofs.search.lowest_lost.Given as goal

abbrev pub invariant-loop-k : goal.invariant-loop-k
invariant-loop-k l =
    l.k + lowest (lost_at (sectors_in l.set)) (drop l.k (page_numbers l.pages))
    ≡ lowest (lost_at (sectors_in l.set)) (page_numbers l.pages)

use Prim.Native.Nat.{◌+◌}
use mathlib.Core.Path.{◌≡◌}
use lib.ListN.{drop}
use Rattle.lists.specs.Place.{lowest}
use Rattle.items.specs.Item.{is_check}
use Rattle.items.proofs.list.find_check.Given as goal

abbrev pub invariant-loop-k : goal.invariant-loop-k
invariant-loop-k l = l.k + lowest is_check (drop l.k l.rest) ≡ lowest is_check l.rest

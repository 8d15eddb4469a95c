use Prim.Native.Nat.{◌+◌}
use mathlib.Core.Path.{◌≡◌}
use lib.ListN.{drop}
use Rattle.lists.specs.Place.{lowest}
use Rattle.items.specs.Item.{is_foreign}
use Rattle.items.proofs.list.find_foreign.Given as goal

abbrev pub invariant-loop-k : goal.invariant-loop-k
invariant-loop-k l = l.k + lowest is_foreign (drop l.k l.items) ≡ lowest is_foreign l.items

use Prim.Native.Nat.{◌+◌, ◌≤◌}
use mathlib.Core.Path.{◌≡◌}
use lib.ListN.{drop}
use Rattle.items.specs.Item.{written_bytes}
use Rattle.items.proofs.list.count_checks.Given as goal

abbrev pub invariant-loop-item : goal.invariant-loop-item
invariant-loop-item l =
    (l.count ≤ l.item-index)
    × (l.item-index + l.count + written_bytes (drop l.item-index l.items) ≡ written_bytes l.items)

use Prim.Native.Nat.{◌+◌, ◌-◌, ◌≤◌}
use mathlib.Core.Path.{◌≡◌}
use lib.ListN.{length, drop}
use Rattle.items.specs.Item.{written_bytes}
use Rattle.items.proofs.list.written_bytes.Given as goal

abbrev pub invariant-loop-k : goal.invariant-loop-k
invariant-loop-k l =
    (l.k ≤ length l.items) × (l.count + written_bytes (drop l.k l.items) ≡ written_bytes l.items)

abbrev pub decreases-loop-k : goal.decreases-loop-k
decreases-loop-k l = length l.items - l.k

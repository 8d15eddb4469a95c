use Prim.Native.Nat.{◌-◌, ◌≤◌}
use mathlib.Core.Path.{◌≡◌}
use lib.ListN.{length, drop}
use Rattle.sets.specs.Set.{set_of}
use Rattle.sets.specs.machine.Index.{count_rule}
use Rattle.sets.proofs.index.count_sectors.Given as goal

abbrev pub invariant-loop-start : goal.invariant-loop-start
invariant-loop-start l =
    (l.start ≤ length l.set)
    × (l.count ≤ l.start)
    × (count_rule l.count (set_of (drop l.start l.set)) ≡ count_rule 0 (set_of l.set))

abbrev pub decreases-loop-start : goal.decreases-loop-start
decreases-loop-start l = length l.set - l.start

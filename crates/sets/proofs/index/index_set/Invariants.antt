use Prim.Native.Nat.{◌-◌, ◌≤◌}
use mathlib.Core.Path.{◌≡◌}
use mathlib.Core.Bool.{false}
use lib.ListN.{length, drop}
use Rattle.sets.specs.Set.{set_of, is_none}
use Rattle.sets.specs.machine.Span.{Spans}
use Rattle.sets.proofs.IndexLaws.{Indexing}
use Rattle.sets.proofs.index.index_set.Given as goal

abbrev pub invariant-loop-start : goal.invariant-loop-start
invariant-loop-start l =
    (l.start ≤ length l.set)
    × (is_none (set_of (drop l.start l.set)) ≡ false)
    × (length l.index ≡ 256)
    × Indexing l.set l.index l.start
    × Spans l.span l.index

abbrev pub decreases-loop-start : goal.decreases-loop-start
decreases-loop-start l = length l.set - l.start

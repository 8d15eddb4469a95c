use Rattle.std.proofs.Common.{◌≡◌, ◌-◌, ◌≤◌, length, drop}
use Rattle.timing.specs.Class.{Ascending}
use Rattle.clearance.specs.machine.Seen.{seen_from}
use Rattle.clearance.proofs.seen.Seen.all.Given as goal

abbrev pub invariant-loop-from : goal.invariant-loop-from
invariant-loop-from l =
    (l.from ≤ length l.intervals)
    × Ascending l.seen.cursor
    × (seen_from l.seen (drop l.from l.intervals) ≡ seen_from l.initial.seen l.intervals)

abbrev pub decreases-loop-from : goal.decreases-loop-from
decreases-loop-from l = length l.intervals - l.from

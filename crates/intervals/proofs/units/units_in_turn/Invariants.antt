use Rattle.std.proofs.Common.{◌≡◌, length, drop}
use Rattle.lists.specs.Filled.{stored_at}
use Rattle.timing.specs.Class.{cursor_after}
use Rattle.timing.specs.machine.Edges.{units_from}
use Rattle.intervals.proofs.units.units_in_turn.Given as goal

abbrev pub invariant-loop-k : goal.invariant-loop-k
invariant-loop-k l =
    (length l.units ≡ length l.initial.units)
    × (cursor_after l.cursor (drop l.k l.intervals) ≡ cursor_after l.initial.cursor l.intervals)
    × (stored_at l.units l.k (units_from l.cursor (drop l.k l.intervals)) ≡ stored_at l.initial.units 0 (units_from l.initial.cursor l.intervals))

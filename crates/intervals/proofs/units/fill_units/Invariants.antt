use Rattle.std.proofs.Common.{◌≡◌, map, length, drop}
use Rattle.lists.specs.Filled.{stored_at}
use Rattle.intervals.specs.machine.Either.{units_by}
use Rattle.intervals.proofs.units.fill_units.Given as goal

abbrev pub invariant-loop-k : goal.invariant-loop-k
invariant-loop-k l =
    (length l.units ≡ length l.initial.units)
    × (stored_at l.units l.k (map (units_by l.bounds) (drop l.k l.intervals)) ≡ stored_at l.initial.units 0 (map (units_by l.bounds) l.intervals))

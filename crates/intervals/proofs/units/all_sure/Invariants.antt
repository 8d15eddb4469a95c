use Rattle.std.proofs.Common.{◌≡◌, ◌&&◌, drop}
use Rattle.lists.specs.Place.{everywhere}
use Rattle.intervals.specs.machine.Either.{one_side}
use Rattle.intervals.proofs.units.all_sure.Given as goal

abbrev pub invariant-loop-interval : goal.invariant-loop-interval
invariant-loop-interval l =
    (l.all && everywhere (one_side l.low l.high) (drop l.interval-index l.intervals))
    ≡ everywhere (one_side l.low l.high) l.intervals

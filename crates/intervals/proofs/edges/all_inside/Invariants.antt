use Rattle.std.proofs.Common.{◌≡◌, ◌-◌, ◌&&◌, ltb, drop}
use Rattle.lists.specs.Place.{everywhere}
use Rattle.intervals.specs.machine.Inside.{is_inside}
use Rattle.intervals.proofs.edges.all_inside.Given as goal

abbrev pub invariant-loop-interval : goal.invariant-loop-interval
invariant-loop-interval l =
    (ltb l.most (l.rpt - l.min) && everywhere (is_inside l.min l.rpt) (drop l.interval-index l.intervals))
    ≡ (ltb 0 (l.rpt - l.min) && everywhere (is_inside l.min l.rpt) l.intervals)

use Rattle.std.proofs.Common.{◌≡◌, drop}
use Rattle.clearance.specs.machine.Nearest.{alike_from}
use Rattle.clearance.proofs.blocks.extremes_alike.Given as goal

abbrev pub invariant-loop-interval : goal.invariant-loop-interval
invariant-loop-interval l =
    alike_from (record {
      shortest = l.shortest;
      longest = l.longest;
      from = l.from;
      below = l.below;
    }) l.bounds (drop l.interval-index l.intervals)
    ≡ alike_from (record {
      shortest = l.initial.shortest;
      longest = l.initial.longest;
      from = l.initial.from;
      below = l.initial.below;
    }) l.bounds l.intervals

use Rattle.std.proofs.Common.{◌≡◌, ◌+◌, drop}
use Rattle.intervals.specs.machine.Inside.{inside_from}
use Rattle.intervals.proofs.edges.find_outside.Given as goal

abbrev pub invariant-loop-k : goal.invariant-loop-k
invariant-loop-k l =
    inside_from l.min l.rpt (l.from + l.k) (drop l.k l.intervals) ≡ inside_from l.min l.rpt l.from l.intervals

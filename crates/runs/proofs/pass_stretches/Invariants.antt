use Prim.Native.Nat.{◌-◌}
use lib.ListN.{length}
use Rattle.runs.specs.machine.Scan.{PassesTo}
use Rattle.runs.proofs.pass_stretches.Given as goal

abbrev pub invariant-loop-k : goal.invariant-loop-k
invariant-loop-k l = PassesTo l.short l.intervals l.from l.k

abbrev pub decreases-loop-k : goal.decreases-loop-k
decreases-loop-k l = length l.intervals - l.k

use Rattle.runs.specs.machine.Scan.{PassesTo}
use Rattle.runs.proofs.pass_run.Given as goal

abbrev pub invariant-loop-k : goal.invariant-loop-k
invariant-loop-k l = PassesTo l.short l.intervals l.from l.k

use Rattle.std.proofs.Common.{◌-◌, length}
use Rattle.timing.specs.declared.Profile.{Profile}
use Rattle.passes.specs.machine.Look.{Looking}
use Rattle.passes.proofs.look_over.Given as goal

abbrev pub invariant-loop-at : goal.invariant-loop-at
invariant-loop-at l = (p : Profile) → Looking p l.intervals l.initial.at → Looking p l.intervals l.at

abbrev pub decreases-loop-at : goal.decreases-loop-at
decreases-loop-at l = length l.intervals - l.at.used

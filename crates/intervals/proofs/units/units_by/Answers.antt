-- `units::units_by` is `units_by` itself, and never above 4. Rests on no axiom.
use Rattle.std.proofs.Common.{refl}
use Rattle.intervals.specs.machine.Either.{units_by}
use Rattle.intervals.proofs.units.units_by.Goals as goal

pub returns : goal.returns
unfolding units_by
returns c = refl

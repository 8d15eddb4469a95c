-- `Extremes::none` is `none_met` itself. Rests on no axiom.
use Rattle.std.proofs.Common.{refl}
use Rattle.clearance.specs.machine.Nearest.{none_met}
use Rattle.clearance.proofs.extremes.Extremes.none.Goals as goal

pub returns : goal.returns
unfolding none_met
returns c = refl

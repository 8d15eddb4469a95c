-- Why `timing::delay` answers `delay`: it is the distance of the two points. Rests on no axiom.
use Rattle.timing.specs.Profile.{delay}
use Rattle.timing.proofs.rule.delay.Goals as goal

pub returns : goal.returns
unfolding delay
returns c = c.apart.ensures

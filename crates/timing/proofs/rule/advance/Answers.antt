-- Why `timing::advance` answers `advance`: it is the distance of the two points. Rests on no axiom.
use Rattle.timing.specs.Profile.{advance}
use Rattle.timing.proofs.rule.advance.Goals as goal

pub returns : goal.returns
unfolding advance
returns c = c.apart.ensures

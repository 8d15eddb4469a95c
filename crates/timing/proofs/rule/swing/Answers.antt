-- Why `timing::swing` answers `swing`: it is the distance of the two points. Rests on no axiom.
use Rattle.timing.specs.Profile.{swing}
use Rattle.timing.proofs.rule.swing.Goals as goal

pub returns : goal.returns
unfolding swing
returns c = c.apart.ensures

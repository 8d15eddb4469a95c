-- Why `extremes::past` is `past_bound`: both count round at 65,536. Rests on no axiom.
use Rattle.clearance.specs.machine.Nearest.{past_bound}
use Rattle.clearance.proofs.extremes.past.Goals as goal

pub returns : goal.returns
unfolding past_bound
returns c = rw c.turned.ensures

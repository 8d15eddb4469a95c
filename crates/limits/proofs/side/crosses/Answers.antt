-- Why `side::crosses` answers `crosses`: it asks what the definition asks. Rests on no axiom.
use Rattle.limits.specs.Sides.{crosses}
use Rattle.limits.proofs.side.crosses.Goals as goal

pub returns : goal.returns
unfolding crosses
returns c = rw (c.reaches.ensures, c.edge_of.ensures, c.counts.ensures)

-- Why `push_both` pushes both sides of an edge: it pushes the one below, then the one above. Rests on no axiom.
use Rattle.limits.proofs.push_both.Goals as goal

pub returns : goal.returns
returns c = rw (c.push.ensures, c.push-below.ensures)

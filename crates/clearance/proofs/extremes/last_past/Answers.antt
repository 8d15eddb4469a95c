-- `extremes::last_past` is `last_past`. Rests on no axiom.
use Rattle.clearance.proofs.extremes.last_past.Goals as goal

pub returns : goal.returns
returns c = rw (c.last.ensures, c.past-2.ensures, c.past.ensures)

-- `extremes::first_past` is `first_past`. Rests on no axiom.
use Rattle.clearance.proofs.extremes.first_past.Goals as goal

pub returns : goal.returns
returns c = rw (c.first.ensures, c.past-2.ensures, c.past.ensures)

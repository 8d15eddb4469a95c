-- `Seen::past` is `seen_past`, field by field. Rests on no axiom.
use Rattle.clearance.specs.machine.Seen.{seen_past}
use Rattle.clearance.proofs.seen.Seen.past.Goals as goal

pub returns : goal.returns
unfolding seen_past
returns c = rw (c.past.ensures, c.with.ensures)

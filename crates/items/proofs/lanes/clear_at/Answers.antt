-- `lanes::clear_at` makes the definition's test. Rests on no axiom.
use Rattle.items.specs.machine.Lanes.{clear_at}
use Rattle.items.proofs.lanes.clear_at.Goals as goal

pub returns : goal.returns
unfolding clear_at
returns c = rw (c.four_at.ensures, c.four_at-2.ensures)

-- Why `pace::corrected` is `cut`: no product needs more than 32 bits, and what is above 65,535 is cut off. Rests on no
-- axiom.
use Rattle.pace.specs.Pace.{corrected}
use Rattle.pace.specs.machine.Cut.{cut}
use Rattle.pace.proofs.corrected.Goals as goal

pub returns : goal.returns
unfolding cut corrected
returns c = c.min.ensures

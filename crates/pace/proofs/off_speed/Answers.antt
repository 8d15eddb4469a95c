-- Why `pace::off_speed` is `off_speed`: the size of the difference is the definition's. Rests on no axiom.
use Rattle.pace.specs.Pace.{off_speed}
use Rattle.pace.proofs.off_speed.Goals as goal

pub returns : goal.returns
unfolding off_speed
returns c = rw c.abs_diff.ensures

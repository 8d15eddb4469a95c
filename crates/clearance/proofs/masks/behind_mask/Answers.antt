-- Why `masks::behind_mask` is `behind`: one field is set anew. Rests on no axiom.
use Rattle.timing.specs.Class.{behind}
use Rattle.clearance.proofs.masks.behind_mask.Goals as goal

pub returns : goal.returns
unfolding behind
returns c = rw c.bounds_by-next.ensures

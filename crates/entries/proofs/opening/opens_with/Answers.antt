-- Why `opening::opens_with` answers `opens_with`: it makes the same four tests. Rests on no axiom.
use mathlib.Core.Path.{refl}
use Rattle.entries.specs.FieldKinds.{opens_with}
use Rattle.entries.proofs.opening.opens_with.Goals as goal

pub returns : goal.returns
unfolding opens_with
returns c = refl

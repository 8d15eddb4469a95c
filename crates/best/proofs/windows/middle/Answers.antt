-- Why `middle` answers the definition's: it is half of the same sum. Rests on no axiom.
use mathlib.Core.Path.{refl}
use Rattle.best.proofs.windows.middle.Goals as goal

pub returns : goal.returns
returns c = refl

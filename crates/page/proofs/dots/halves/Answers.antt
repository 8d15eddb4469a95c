-- Why `dots::halves` answers `halves_of`: it makes the same steps, and no byte runs over. Rests on no axiom.
use mathlib.Core.Path.{refl}
use Rattle.page.specs.machine.Columns.{pairs_of, halves_of}
use Rattle.page.proofs.dots.halves.Goals as goal

pub returns : goal.returns
unfolding pairs_of halves_of
returns c = refl

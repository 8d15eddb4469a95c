-- Why `word::first_of_cells` gives `first_of_cells`: both count back from the place after the last.
use Rattle.std.proofs.Common.{arith}
use Rattle.half_cells.specs.machine.Word.{first_of_cells}
use Rattle.half_cells.proofs.first_of_cells.Goals as goal

pub returns : goal.returns
unfolding first_of_cells
returns c = omega (arith, c.ranges.cells.fits)

-- Why `codec::pen::lay` lays a window: it stores the table's two lengths and counts the cells. Rests on no axiom.
use mathlib.Core.Path.{refl}
use native.Mathlib.Omega.{arith}
use lib.ListN.{length-set}
use Rattle.codec.specs.machine.Pen.{laid}
use Rattle.codec.proofs.PenLaws.{one_at_least}
use Rattle.codec.proofs.pen.lay.Goals as goal

pub bounds-out-at-2 : goal.bounds-out-at-2
bounds-out-at-2 c = rw length-set (omega (arith, one_at_least c.args.window, c.requires.1))

pub returns : goal.returns
unfolding laid
returns c = rw c.cells_in.ensures refl

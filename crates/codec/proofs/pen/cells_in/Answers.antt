-- Why `codec::pen::cells_in` answers how many cells end in a window: the bit for it says so. Rests on no axiom.
use Rattle.codec.proofs.WindowLaws.{cells_are_counted}
use Rattle.codec.proofs.pen.cells_in.Goals as goal

pub returns : goal.returns
returns c = cells_are_counted _ c.requires

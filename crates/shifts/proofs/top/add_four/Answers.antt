-- Why `top::add_four` adds the four cells from the place on: it adds one after the other. Rests on no axiom.
use Rattle.std.proofs.Common.{sym}
use Rattle.shifts.proofs.AddedLaws.{added_four}
use Rattle.shifts.proofs.top.add_four.Goals as goal

pub returns : goal.returns
returns c =
    rw (c.add_cell-3.ensures, c.add_cell-2.ensures, c.add_cell-two.ensures, c.add_cell.ensures)
    (sym (added_four c.args.units.now c.args.k c.requires c.args.t))

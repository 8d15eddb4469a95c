-- Why `fours::shift_four` gives `shifted_all`: it shifts in the four elements from the place on. Rests on no axiom.
use Rattle.std.proofs.Common.{sym}
use Rattle.shifts.proofs.AddedLaws.{shifted_four}
use Rattle.shifts.proofs.fours.shift_four.Goals as goal

pub returns : goal.returns
returns c =
    rw (c.shift-3.ensures, c.shift-2.ensures, c.shift-two.ensures, c.shift.ensures)
    (sym (shifted_four c.args.units.now c.args.k c.requires c.args.m))

-- Why `codec::pen::enter` enters a byte: at the front of a list the window's last length alone is stored, and else the
-- window is laid. Rests on no axiom.
use mathlib.Core.Path.{refl, sym, ◌∙◌}
use Rattle.codec.specs.machine.Pen.{drawing, laid, entered}
use Rattle.codec.proofs.PenLaws.{entered_later}
use Rattle.codec.proofs.pen.enter.Goals as goal

pub returns-then-at-eq0 : goal.returns-then-at-eq0
unfolding entered
returns-then-at-eq0 c = rw c.if-at-eq0.true refl

pub lay-requires : goal.lay-requires
unfolding laid
lay-requires c =
    let d = drawing c.args.at c.args.out.now in
    let later = entered_later c.args.table.now d c.args.window c.if-at-eq0.false in
    (c.requires.window_bound, rw later at c.requires.window_in_bounds)

pub returns : goal.returns
returns c =
    let d = drawing c.args.at c.args.out.now in
    c.lay.ensures
    ∙ sym (entered_later c.args.table.now d c.args.window c.if-at-eq0.false)

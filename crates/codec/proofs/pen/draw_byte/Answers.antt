-- Why `codec::pen::draw_byte` draws a written byte: it is begun and finished. Rests on no axiom.
use Prim.Native.Nat.{◌%◌}
use mathlib.Core.Path.{sym, ap, ◌∙◌}
use native.Mathlib.Omega.{arith}
use Rattle.codec.specs.machine.Pen.{Drawing, writing, begun, windows_left, finished, leaves, wrote_byte}
use Rattle.codec.proofs.PenLaws.{all_move_on, begun-length, finish_fits}
use Rattle.codec.proofs.pen.draw_byte.Goals as goal

pub begin-at-requires : goal.begin-at-requires
unfolding wrote_byte finished
begin-at-requires c =
    let args = c.args in
    let begins = begun args.table.now (writing args.start args.out.now) (args.byte % 256) in
    let on = all_move_on args.table.now begins (windows_left args.byte) in
    record { byte_bound = omega arith; byte_in_bounds = omega (arith, c.requires) }

pub finish-requires : goal.finish-requires
unfolding wrote_byte
finish-requires c =
    let args = c.args in
    let start = writing args.start args.out.now in
    finish_fits _ (begun args.table.now start (args.byte % 256)) _ _ _ c.begin-at.ensures c.requires
    (sym (begun-length _ start (args.byte % 256)))

pub returns : goal.returns
unfolding wrote_byte
returns c =
    c.finish.ensures
    ∙ ap (λ (d : Drawing). leaves c.args.byte (finished c.args.table.now d c.args.byte))
    c.begin-at.ensures

-- Why `codec::writer::write_run` draws a run and the check order behind it: the run's bytes are its own, and leave the
-- register that the check order writes. Rests on no axiom.
use Prim.Native.Nat.{ℕ}
use mathlib.Core.Path.{◌≡◌, refl, sym, ap, ap₂, ◌∙◌}
use mathlib.Core.List.{[], ◌∷◌}
use Rattle.items.specs.Written.{after_bytes, check_bytes, after_check}
use Rattle.items.specs.declared.Check.{Check}
use Rattle.register.specs.Register.{high_byte, low_byte}
use Rattle.codec.specs.machine.Pen.{writing, wrote}
use Rattle.codec.proofs.PenLaws.{first_fits, rest_fits, wrote-append}
use Rattle.codec.proofs.writer.write_run.Goals as goal

-- the two bytes of the check order
told : (check after : Check) (high low : ℕ)
    → high ≡ high_byte check.register
    → low ≡ low_byte check.register
    → check ≡ after
    → high ∷ low ∷ [] ≡ check_bytes after
told check after high low highs lows same = rw (highs, lows, same)

pub draw_bytes-pen-requires : goal.draw_bytes-pen-requires
draw_bytes-pen-requires c =
    let args = c.args in
    let check_order = check_bytes (after_bytes args.start.check args.run.now) in
    first_fits _ (writing args.start.pen args.out.now) _ check_order _ c.requires

pub draw_bytes-requires : goal.draw_bytes-requires
draw_bytes-requires c =
    let args = c.args in
    let check_order = check_bytes (after_bytes args.start.check args.run.now) in
    let start = writing args.start.pen args.out.now in
    rw (told _ _ _ _ c.high.ensures c.low.ensures c.after_bytes-check.ensures)
    (rest_fits _ start _ _ check_order _ c.draw_bytes-pen.ensures c.requires refl)

pub returns : goal.returns
returns c =
    let args = c.args in
    let table = args.table.now in
    let check_order = check_bytes (after_bytes args.start.check args.run.now) in
    let start = writing args.start.pen args.out.now in
    record {
      check = c.after_check.ensures ∙ ap after_check c.after_bytes-check.ensures;
      pen = c.draw_bytes.ensures
          ∙ ap₂ (wrote table) c.draw_bytes-pen.ensures
          (told _ _ _ _ c.high.ensures c.low.ensures c.after_bytes-check.ensures)
          ∙ sym (wrote-append table start args.run.now check_order);
    }

-- Why `fours::last_bits` is the register after sixteen cells: it shifts them in by fours. Rests on no axiom.
use Rattle.std.proofs.Common.{sym, ap}
use Rattle.symbols.specs.machine.Step.{empty_reading}
use Rattle.symbols.specs.declared.Reading.{Reading}
use Rattle.shifts.proofs.SixteenLaws.{shifted_sixteen}
use Rattle.shifts.proofs.fours.last_bits.Goals as goal

pub returns : goal.returns
returns c =
    rw (
      c.shift_four-3.ensures,
      c.shift_four-2.ensures,
      c.shift_four-half.ensures,
      c.shift_four.ensures,
      c.empty.ensures,
    )
    (ap (λ (r : Reading). r.bits) (sym (shifted_sixteen c.args.k c.args.units.now empty_reading)))

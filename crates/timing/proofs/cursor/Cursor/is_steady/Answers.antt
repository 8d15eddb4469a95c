-- `Cursor::is_steady` compares the bounds that `is_steady` does. Rests on no axiom.
use Rattle.std.proofs.Common.{sym, eqb}
use mathlib.Core.Bool.{◌&&◌, and_assoc}
use Rattle.timing.specs.machine.Edges.{is_steady}
use Rattle.timing.proofs.cursor.Cursor.is_steady.Goals as goal

pub returns : goal.returns
unfolding is_steady
returns c =
    let now = c.args.self.bounds in
    let short = c.args.self.short in
    let long = c.args.self.long in
    rw (c.eq.ensures, c.eq-2.ensures)
    (sym (and_assoc (eqb now.b23.0 short.b23.0 && eqb now.b34.0 short.b34.0) (eqb now.b23.0 long.b23.0)
    (eqb now.b34.0 long.b34.0)))

-- Why `dots::sum_columns` adds the columns up: those so far are added from turn to turn. Rests on no axiom.
use mathlib.Core.Path.{sym}
use native.Mathlib.Numerals.{add-one}
use native.Mathlib.Omega.{arith}
use Rattle.page.proofs.ColumnLaws.{no_sum, sum_of_next}
use Rattle.page.proofs.dots.sum_columns.Goals as goal

pub loop-column-init : goal.loop-column-init
loop-column-init c = (omega arith, sym no_sum)

pub loop-column-preserved : goal.loop-column-preserved
loop-column-preserved c =
    let turn = c.loop-column in
    let columns = c.args.columns.now in
    let size = c.requires.0 in
    let next = sum_of_next columns turn.column-index (omega (arith, size)) in (
      omega (arith, c.requires.1 c.loop-column.column-index, turn.invariant.0),
      rw add-one (omega (arith, turn.invariant.1, next)),
    )

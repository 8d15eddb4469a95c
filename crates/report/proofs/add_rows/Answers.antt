-- Why `add_rows` answers `add_reports`: each turn puts the sum of two rows in its place. Rests on no axiom.
use mathlib.Core.Path.{◌∙◌}
use native.Mathlib.Omega.{arith}
use Rattle.report.proofs.SumLaws.{row_of_sum_fits, next_row, rows_at_end}
use Rattle.report.proofs.add_rows.Goals as goal

pub add-requires : goal.add-requires
add-requires c = row_of_sum_fits _ _ _ c.loop-k-test.true c.requires

pub loop-k-preserved : goal.loop-k-preserved
loop-k-preserved c = rw (c.loop-k.invariant, c.add.ensures) (next_row _ _ _ c.loop-k-test.true)

pub returns : goal.returns
returns c =
    c.loop-k.invariant ∙ rows_at_end _ _ c.loop-k.k (omega (arith, c.loop-k-test.false, c.loop-k.auto.k-end))

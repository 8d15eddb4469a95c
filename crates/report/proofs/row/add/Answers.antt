-- Why `row::add` answers `add_row`: it goes by the definition's cases, and where no row is empty, counts and sums fit.
-- Rests on no axiom.
use mathlib.Core.Path.{sym}
use native.Mathlib.Omega.{arith}
use Rattle.report.proofs.RowLaws.{two_empty_rows, first_row_is_empty, second_row_is_empty, no_row_is_empty}
use Rattle.report.proofs.RowLaws.{fitting_row}
use Rattle.report.proofs.row.add.Goals as goal

pub returns-then-b-eq0 : goal.returns-then-b-eq0
returns-then-b-eq0 c = sym (two_empty_rows _ _ c.if-a-eq0.true c.if-b-eq0.true)

pub returns-then-a-eq0 : goal.returns-then-a-eq0
returns-then-a-eq0 c = sym (first_row_is_empty _ _ c.if-a-eq0.true c.if-b-eq0.false)

pub returns-then-b-eq0-2 : goal.returns-then-b-eq0-2
returns-then-b-eq0-2 c = sym (second_row_is_empty _ _ c.if-a-eq0.false c.if-b-eq0-2.true)

pub overflow_add-result : goal.overflow_add-result
overflow_add-result c =
    omega (
      arith,
      fitting_row _
          (rw (no_row_is_empty _ _ c.if-a-eq0.false c.if-b-eq0-2.false) at c.requires),
    )

pub overflow_add-result-2 : goal.overflow_add-result-2
overflow_add-result-2 c =
    omega (
      arith,
      fitting_row _
          (rw (no_row_is_empty _ _ c.if-a-eq0.false c.if-b-eq0-2.false) at c.requires),
    )

pub returns : goal.returns
returns c =
    rw (c.min.ensures, c.max.ensures)
    (sym (no_row_is_empty _ _ c.if-a-eq0.false c.if-b-eq0-2.false))

-- Why `row::overflows` answers `is_overlarge` of the rows added: where one is empty the other comes through, whose
-- numbers fit; else counts and sums are compared. Rests on no axiom.
use mathlib.Core.Path.{sym, ap, ap₂, ◌∙◌}
use mathlib.Core.Bool.{Bool, ◌||◌}
use Rattle.report.specs.Row.{is_overlarge}
use Rattle.report.proofs.RowLaws.{fits_if_first_is_empty, second_row_is_empty, no_row_is_empty, row_fits}
use Rattle.report.proofs.row.overflows.Goals as goal

pub returns-then-a-eq0 : goal.returns-then-a-eq0
returns-then-a-eq0 c =
    sym (fits_if_first_is_empty _ _ c.if-a-eq0.true c.exceed-counts.ensures.second_fits
    c.exceed-sums.ensures.second_fits)

pub returns-then-b-eq0 : goal.returns-then-b-eq0
returns-then-b-eq0 c =
    rw (second_row_is_empty _ _ c.if-a-eq0.false c.if-b-eq0.true) (sym (row_fits _
    c.exceed-counts.ensures.first_fits c.exceed-sums.ensures.first_fits))

pub returns : goal.returns
unfolding is_overlarge
returns c =
    ap₂ (λ (s t : Bool). s || t) c.exceed-counts.ensures.sum
    c.exceed-sums.ensures.sum
    ∙ ap is_overlarge (sym (no_row_is_empty _ _ c.if-a-eq0.false c.if-b-eq0.false))

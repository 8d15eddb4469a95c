-- Why `check_sum` answers `add_rule`: the loop goes over the rows of the sum and ends at the first that does not fit.
-- Rests on no axiom.
use mathlib.Core.Path.{sym, ◌∙◌}
use Rattle.report.specs.Report.{add_rule}
use Rattle.report.proofs.SumLaws.{overflows_here, fits_here, fits_at_end}
use Rattle.report.proofs.check_sum.Goals as goal

pub returns-then-overflows : goal.returns-then-overflows
unfolding add_rule
returns-then-overflows c =
    let overflows = sym c.overflows.ensures ∙ c.if-overflows.true in
    rw (sym c.loop-k.invariant ∙ overflows_here _ _ _ c.loop-k-test.true overflows)

pub loop-k-preserved : goal.loop-k-preserved
loop-k-preserved c =
    let fits = sym c.overflows.ensures ∙ c.if-overflows.false in
    fits_here _ _ _ c.loop-k-test.true fits ∙ c.loop-k.invariant

pub returns : goal.returns
unfolding add_rule
returns c = rw (sym c.loop-k.invariant ∙ fits_at_end _ _ _ c.loop-k-test.false)

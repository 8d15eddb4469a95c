-- Why `add` answers `added`: the rows are added where the sum is accepted. Rests on no axiom.
use mathlib.Core.Path.{◌∙◌}
use Rattle.report.specs.Report.{added}
use Rattle.report.proofs.RefusalLaws.{refused_gives_zeros, accepted_gives_report}
use Rattle.report.proofs.add.Goals as goal

pub returns-in-Err : goal.returns-in-Err
unfolding added
returns-in-Err c = refused_gives_zeros _ _ _ c.check_sum.ensures _ c.in-Err.is

pub returns-in-Ok : goal.returns-in-Ok
unfolding added
returns-in-Ok c =
    c.add_rows.ensures
    ∙ accepted_gives_report _ _ _ c.check_sum.ensures c.in-Ok.is

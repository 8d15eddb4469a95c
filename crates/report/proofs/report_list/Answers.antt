-- Why `report_list` answers `reported`: a list that is accepted is not overlong, and its report is gathered from the
-- start of a list. Rests on no axiom.
use Rattle.refusal.proofs.AnswerLaws.{verdict_accepts}
use Rattle.report.specs.Report.{reported}
use Rattle.report.proofs.ReportLaws.{report_from_start}
use Rattle.report.proofs.RefusalLaws.{refused_gives_zeros, accepted_gives_report, reported_list_is_short}
use Rattle.report.proofs.report_list.Goals as goal

pub gather-requires : goal.gather-requires
gather-requires c =
    reported_list_is_short _ _
    (verdict_accepts _ _ c.check_list.ensures c.in-Ok.is)

pub returns-in-Err : goal.returns-in-Err
unfolding reported
returns-in-Err c = refused_gives_zeros _ _ _ c.check_list.ensures _ c.in-Err.is

pub returns-in-Ok : goal.returns-in-Ok
unfolding reported
returns-in-Ok c =
    rw (c.gather.ensures, c.start.ensures, ← report_from_start _ _)
    (accepted_gives_report _ _ _ c.check_list.ensures c.in-Ok.is)

-- Why `codec::reader::read_strip` answers `read_rule`: an interval that is no cell is refused, and else the cells decide.
-- Rests on no axiom.
use mathlib.Core.Path.{◌∙◌}
use Rattle.refusal.proofs.AnswerLaws.{handed_on}
use Rattle.codec.proofs.ReaderLaws.{edge_refuses}
use Rattle.codec.proofs.reader.read_strip.Goals as goal

pub returns-in_err-check_edges : goal.returns-in_err-check_edges
returns-in_err-check_edges c =
    let both = edge_refuses _ _ _ c.requires.p_value c.requires.intervals_len_bound _ _ c.check_edges.ensures
    c.in_err-check_edges.was in
    record { answer = handed_on _ _ c.from_residual.ensures.1 ∙ both.0; output = both.1 }

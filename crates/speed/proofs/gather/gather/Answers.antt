-- Why `gather::gather` answers `gather_rule` of the corrected numbers, tells the sum and the least clearance and stores the
-- items: it ends as the field reader's pass over them does. Rests on no axiom.
use mathlib.Core.Path.{ap, ◌∙◌}
use native.Mathlib.Omega.{arith}
use Rattle.lists.specs.Filled.{stored_at}
use Rattle.refusal.proofs.AnswerLaws.{verdict_accepts}
use Rattle.timing.proofs.ProfileLaws.{kept}
use Rattle.fields.proofs.EndLaws.{refusal_is_not_zero}
use Rattle.pace.proofs.CutLaws.{slowed_fits}
use Rattle.speed.proofs.EndsLaws.{ended, edges_are, edge_refuses, tells_sum, tells_least}
use Rattle.speed.proofs.gather.gather.Goals as goal

pub conclude-requires : goal.conclude-requires
conclude-requires c =
    let accepts = c.requires.p_value in
    let range = c.requires.le_n in
    let able = c.requires.able in
    omega (arith, (ended _ _ _ _ accepts range c.pass_over-along.ensures.end).small)

pub least-requires : goal.least-requires
least-requires c = omega (arith, (kept c.args.p c.requires.p_value).ranges)

pub returns-in-Err : goal.returns-in-Err
returns-in-Err c =
    let accepts = c.requires.p_value in
    let range = c.requires.le_n in
    let able = c.requires.able in
    let e = edge_refuses _ _ _ c.pass_over-along.result accepts range c.pass_over-along.ensures.end c.in-Err.refusal c.in-Err.is in
    let never = refusal_is_not_zero c.in-Err.refusal _ e in
    record {
      answer = e;
      sum = λ zero. absurd (never zero);
      least = λ zero. absurd (never zero);
      fill = λ zero. absurd (never zero);
    }

pub returns-in-Ok : goal.returns-in-Ok
returns-in-Ok c =
    let accepts = c.requires.p_value in
    let range = c.requires.le_n in
    let able = c.requires.able in
    let ends = c.pass_over-along.ensures.end in
    let output = c.pass_over-along.ensures.output in
    let clean = verdict_accepts _ _ (edges_are _ _ _ _ accepts range ends) c.in-Ok.is in
    let end = ended _ _ _ _ accepts range ends in
    record {
      answer = c.conclude.ensures ∙ end.answers clean;
      sum = tells_sum _ _ _ _ accepts range ends clean;
      least = λ zero.
          c.least.ensures
          ∙ tells_least _ _ _ _ accepts range ends clean (slowed_fits c.args.pace c.args.intervals.now) zero;
      fill = λ zero. output ∙ ap (stored_at _ 0) (end.items clean zero);
    }

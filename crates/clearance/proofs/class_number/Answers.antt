-- Why `class_number` answers `class_with_clearance`: a refusal decides, and the class of an interval comes with its own
-- clearance, under a profile that was accepted. Rests on no axiom.
use Rattle.std.proofs.Common.{ℕ, rules}
use Rattle.refusal.proofs.AnswerLaws.{first_refusal_accepts}
use Rattle.timing.specs.Class.{class_rule}
use Rattle.clearance.specs.Answers.{class_with_clearance}
use Rattle.clearance.proofs.AnswerLaws.{refused_comes_without, counted_comes_with, count_accepts}
use Rattle.clearance.proofs.class_number.Goals as goal

pub of_interval-clearance-requires : goal.of_interval-clearance-requires
unfolding class_rule
of_interval-clearance-requires c =
    (first_refusal_accepts _ _ (count_accepts c.class_number.ensures _ c.in_ok-read.was)).0

pub returns-in_err-read : goal.returns-in_err-read
unfolding class_with_clearance
returns-in_err-read c =
    let refused = λ (e : ℕ). refused_comes_without c.class_number.ensures _ e c.in_err-read.was in
    search (rules, refused)

pub returns : goal.returns
unfolding class_with_clearance
returns c =
    rw c.of_interval-clearance.ensures (counted_comes_with c.class_number.ensures _ _ c.in_ok-read.was)

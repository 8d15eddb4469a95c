-- Why `read` answers `strip_with_clearance`: a refusal decides, and a strip comes with the least clearance of its
-- intervals, under a profile that was accepted. Rests on no axiom.
use Rattle.std.proofs.Common.{ℕ, rules}
use Rattle.refusal.proofs.AnswerLaws.{first_refusal_accepts}
use Rattle.codec.specs.Reader.{read_rule}
use Rattle.clearance.specs.Answers.{strip_with_clearance}
use Rattle.clearance.proofs.AnswerLaws.{refused_comes_without, counted_comes_with, count_accepts}
use Rattle.clearance.proofs.read.Goals as goal

pub of_list-clearance-requires : goal.of_list-clearance-requires
unfolding read_rule
of_list-clearance-requires c =
    (first_refusal_accepts _ _ (count_accepts c.read.ensures.answer _ c.in_ok-read.was)).0

pub returns-in_err-read-clause-answer : goal.returns-in_err-read-clause-answer
unfolding strip_with_clearance
returns-in_err-read-clause-answer c =
    let refused = λ (e : ℕ). refused_comes_without c.read.ensures.answer _ e c.in_err-read.was in
    search (rules, refused)

pub returns-clause-answer : goal.returns-clause-answer
unfolding strip_with_clearance
returns-clause-answer c =
    rw c.of_list-clearance.ensures (counted_comes_with c.read.ensures.answer _ _ c.in_ok-read.was)

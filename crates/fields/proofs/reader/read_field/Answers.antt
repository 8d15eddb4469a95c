-- Why `fields::reader::read_field` answers `field_reading` and leaves `field_output`: the profile's verdict and the range
-- of the count are its first tests, and the rest is read below them. Rests on no axiom.
use mathlib.Core.Path.{sym, ap, ◌∙◌}
use Rattle.std.proofs.Common.{rules}
use Rattle.refusal.specs.Answer.{verdict_answer}
use Rattle.refusal.proofs.AnswerLaws.{verdict_accepts}
use Rattle.fields.proofs.ReaderLaws.{profile_refuses, count_refuses, checked_settles, count_in_range}
use Rattle.fields.proofs.reader.read_field.Goals as goal

pub returns-in_err-check-clause-answer : goal.returns-in_err-check-clause-answer
returns-in_err-check-clause-answer c = search (rules, profile_refuses)

pub returns-in_err-check-clause-output : goal.returns-in_err-check-clause-output
returns-in_err-check-clause-output c =
    let refused = sym (ap verdict_answer c.in_err-check.was) ∙ c.check.ensures in
    (profile_refuses _ c.args.intervals.now c.args.n _ _ refused).1

pub returns-then-n : goal.returns-then-n
returns-then-n c =
    let fair = verdict_accepts _ _ c.check.ensures c.in_ok-check.was in
    let both = count_refuses _ _ _ _ fair c.if-n.true in record { answer = both.0; output = both.1 }

pub read_checked-requires : goal.read_checked-requires
read_checked-requires c =
    record { p_value = verdict_accepts _ _ c.check.ensures c.in_ok-check.was; le_n = count_in_range _ c.if-n.false }

pub returns : goal.returns
returns c =
    let args = c.args in
    let settles =
    checked_settles args.p args.intervals.now args.n args.out.now
    (verdict_accepts _ _ c.check.ensures c.in_ok-check.was) c.if-n.false in
    record { answer = c.read_checked.ensures.answer ∙ settles.0; output = c.read_checked.ensures.output ∙ settles.1 }

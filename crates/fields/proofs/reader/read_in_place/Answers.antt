-- Why `fields::reader::read_in_place` answers `checked_reading` with room for all: it hands over what was gathered. Rests
-- on no axiom.
use mathlib.Core.Path.{sym, ap, ◌∙◌}
use Rattle.std.proofs.Common.{rules}
use Rattle.refusal.specs.Answer.{counted_answer}
use Rattle.fields.proofs.RuleLaws.{gather_refuses, gather_reads, delivers_all}
use Rattle.fields.proofs.reader.read_in_place.Goals as goal

pub returns-in_err-used-clause-answer : goal.returns-in_err-used-clause-answer
returns-in_err-used-clause-answer c = search (rules, gather_refuses)

pub returns-clause-answer : goal.returns-clause-answer
returns-clause-answer c =
    let n = c.args.n in
    let answer = c.gather-gathered.ensures.answer in
    let sum = c.gather-gathered.ensures.sum in
    delivers_all n _ _ ∙ gather_reads _ _ _ _ (sym (ap counted_answer c.in_ok-used.was) ∙ answer) sum n

-- Why `reader::read_corrected` answers `corrected_reading`: the finder's refusal decides, and else the field is read at the
-- lock that it found. Rests on no axiom.
use mathlib.Core.Path.{sym, ap, ◌∙◌}
use Rattle.std.proofs.Common.{rules}
use Rattle.refusal.specs.Answer.{counted_answer}
use Rattle.speed.proofs.ReadLaws.{find_refuses, found_is, lock_is_ahead}
use Rattle.speed.proofs.reader.read_corrected.Goals as goal

pub read_at-requires : goal.read_at-requires
read_at-requires c =
    let args = c.args in
    let (fair, low, high) =
    lock_is_ahead _ _ args.start args.n args.out.now _
    (sym (ap counted_answer c.in_ok-lock.was) ∙ c.find_lock.ensures) in
    record { p_value = fair; le_lock = (low, high) }

pub returns-in_err-lock-clause-answer : goal.returns-in_err-lock-clause-answer
returns-in_err-lock-clause-answer c =
    let args = c.args in
    let refuses = find_refuses _ _ _ args.n args.out.now _
    (sym (ap counted_answer c.in_err-lock.was) ∙ c.find_lock.ensures) in
    let answer = refuses.0 in search (rules, answer)

pub returns-in_err-lock-clause-output : goal.returns-in_err-lock-clause-output
returns-in_err-lock-clause-output c =
    let args = c.args in
    (find_refuses _ _ _ args.n args.out.now _ (sym (ap counted_answer c.in_err-lock.was) ∙ c.find_lock.ensures)).1

pub returns : goal.returns
returns c =
    let args = c.args in
    let is = found_is _ _ _ args.n args.out.now _ (sym (ap counted_answer c.in_ok-lock.was) ∙ c.find_lock.ensures) in
    record { answer = c.read_at.ensures.answer ∙ is.0; output = c.read_at.ensures.output ∙ is.1 }

-- Why `fields::reader::read_into` answers `checked_reading` and leaves `checked_output`: what was gathered in the buffer
-- is what is delivered. Rests on no axiom.
use Prim.Native.Nat.{ℕ}
use mathlib.Core.Path.{sym, ap, ◌∙◌}
use native.Mathlib.Omega.{arith}
use Rattle.std.proofs.Common.{rules}
use lib.ListN.{length}
use lib.Seq.{length-take-le}
use Rattle.refusal.specs.Answer.{counted_answer}
use Rattle.fields.specs.machine.Gather.{deliver_reading}
use Rattle.fields.proofs.RuleLaws.{gather_refuses, gather_keeps, gather_reads, gather_delivers}
use Rattle.fields.proofs.reader.read_into.Goals as goal

pub slice_bounds-deliver-end : goal.slice_bounds-deliver-end
slice_bounds-deliver-end c =
    omega (arith, c.requires.le_n.2, c.gather-gathered.auto.out)

pub returns-in_err-used-clause-answer : goal.returns-in_err-used-clause-answer
returns-in_err-used-clause-answer c = search (rules, gather_refuses)

pub returns-in_err-used-clause-output : goal.returns-in_err-used-clause-output
returns-in_err-used-clause-output c =
    let answer = c.gather-gathered.ensures.answer in
    gather_keeps _ _ _ (sym (ap counted_answer c.in_err-used.was) ∙ answer) _

pub returns : goal.returns
returns c =
    let out = c.args.out.now in
    let answer = c.gather-gathered.ensures.answer in
    let sum = c.gather-gathered.ensures.sum in
    let items = c.gather-gathered.ensures.fill in
    let e = sym (ap counted_answer c.in_ok-used.was) ∙ answer in
    let read = c.deliver.ensures.answer in
    let delivered = c.deliver.ensures.output in
    let front = length-take-le c.args.n _ (omega (arith, c.requires.le_n.2, c.gather-gathered.auto.out)) in
    record {
      answer = read
          ∙ ap (λ (k : ℕ). deliver_reading k c.in_ok-used.used c.gather-gathered.result.holds (length out)) front
          ∙ gather_reads _ _ _ _ e sum (length out);
      output = delivered ∙ gather_delivers _ _ _ _ e sum c.args.buffer.now _ out c.requires.le_n.2 items;
    }

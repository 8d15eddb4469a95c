-- Why `reader::read_into` answers as the field reader over the corrected numbers: what was gathered in the buffer is what
-- is delivered, with the clearance that was told. Rests on no axiom.
use Prim.Native.Nat.{ℕ, ◌≤◌}
use mathlib.Core.Path.{◌≡◌, sym, ap, ◌∙◌}
use mathlib.Core.Bool.{Bool}
use mathlib.Core.List.{List}
use native.Mathlib.Omega.{arith}
use lib.ListN.{length, take}
use lib.Seq.{length-take-le}
use Rattle.std.specs.Prelude.{Result, Ok}
use Rattle.std.proofs.Common.{rules}
use Rattle.refusal.specs.Answer.{counted_answer}
use Rattle.refusal.specs.declared.Refusal.{Refusal}
use Rattle.timing.specs.declared.Class.{Class}
use Rattle.fields.specs.FieldRule.{field_answer}
use Rattle.fields.specs.machine.Gather.{gather_rule, TellsSum, deliver_reading, checked_reading}
use Rattle.fields.specs.declared.reader.Field.{Field}
use Rattle.fields.proofs.RuleLaws.{gather_keeps, gather_reads, gather_delivers}
use Rattle.speed.proofs.ReadLaws.{gather_refuses_cleared, refused_cleared, delivered_cleared}
use Rattle.speed.proofs.reader.read_into.Goals as goal

-- what is delivered from the buffer's front is what was gathered
delivered
    : (cs : List Class) (n used room : ℕ) (holds : Bool) (buffer : List ℕ) (end : Result ℕ Refusal)
    (read answer : Result Field Refusal)
    → n ≤ length buffer
    → counted_answer end ≡ gather_rule cs n
    → end ≡ Ok used
    → TellsSum cs n holds
    → field_answer read ≡ deliver_reading (length (take n buffer)) used holds room
    → read ≡ answer
    → field_answer answer ≡ checked_reading cs n room
delivered cs n used room holds buffer end read answer long ends is sum same reads =
    sym (ap field_answer reads)
    ∙ same
    ∙ ap (λ (k : ℕ). deliver_reading k used holds room) (length-take-le n buffer long)
    ∙ gather_reads cs n used holds (sym (ap counted_answer is) ∙ ends) sum room

pub gather-gathered-requires : goal.gather-gathered-requires
gather-gathered-requires c =
    let accepts = c.requires.p_value in
    let range = c.requires.le_n in
    let able = c.requires.able in
    record { p_value = accepts; le_n = (range.0, range.1); able = able }

pub slice_bounds-deliver-end : goal.slice_bounds-deliver-end
slice_bounds-deliver-end c = omega (arith, c.requires.le_n.2, c.gather-gathered.auto.out)

pub returns-in_err-used-clause-answer : goal.returns-in_err-used-clause-answer
returns-in_err-used-clause-answer c =
    let e = sym (ap counted_answer c.in_err-used.was) ∙ c.gather-gathered.ensures.answer in
    let refuses = gather_refuses_cleared _ _ _ (length c.args.out.now) _ e in
    search (rules, refuses)

pub returns-in_err-used-clause-output : goal.returns-in_err-used-clause-output
returns-in_err-used-clause-output c =
    gather_keeps _ _ _ (sym (ap counted_answer c.in_err-used.was) ∙ c.gather-gathered.ensures.answer) _

pub returns-in_err-read-clause-answer : goal.returns-in_err-read-clause-answer
returns-in_err-read-clause-answer c =
    let gathered = c.gather-gathered.ensures in
    let long : c.args.n ≤ length c.gather-gathered.new.out =
    omega (arith, c.requires.le_n.2, c.gather-gathered.auto.out) in
    let read = delivered _ _ _ _ _ _ _ _ _ long gathered.answer c.in_ok-used.was gathered.sum c.deliver.ensures.answer
    c.in_err-read.was in
    let refuses = refused_cleared _ c.gather-gathered.result.clearance
    ∙ delivered_cleared _ _ _ (length c.args.out.now) _ _ read gathered.least in
    search (rules, refuses)

pub returns-in_err-read-clause-output : goal.returns-in_err-read-clause-output
returns-in_err-read-clause-output c =
    let e = sym (ap counted_answer c.in_ok-used.was) ∙ c.gather-gathered.ensures.answer in
    c.deliver.ensures.output
    ∙ gather_delivers _ _ _ _ e c.gather-gathered.ensures.sum c.args.buffer.now _ c.args.out.now c.requires.le_n.2
    c.gather-gathered.ensures.fill

pub returns : goal.returns
returns c =
    let gathered = c.gather-gathered.ensures in
    let long : c.args.n ≤ length c.gather-gathered.new.out =
    omega (arith, c.requires.le_n.2, c.gather-gathered.auto.out) in
    let read = delivered _ _ _ _ _ _ _ _ _ long gathered.answer c.in_ok-used.was gathered.sum c.deliver.ensures.answer
    c.in_ok-read.was in
    let e = sym (ap counted_answer c.in_ok-used.was) ∙ gathered.answer in
    record {
      answer = delivered_cleared _ _ _ (length c.args.out.now) _ _ read gathered.least;
      output = c.deliver.ensures.output
          ∙ gather_delivers _ _ _ _ e gathered.sum c.args.buffer.now _ c.args.out.now c.requires.le_n.2 gathered.fill;
    }

-- Why `reader::read_slowed` answers as the field reader: the range of the count is its first test, and the rest is read
-- below it. Rests on no axiom.
use mathlib.Core.Path.{◌∙◌}
use Rattle.fields.proofs.ReaderLaws.{count_in_range}
use Rattle.speed.proofs.ReadLaws.{count_refuses_cleared, checked_is_field}
use Rattle.speed.proofs.reader.read_slowed.Goals as goal

pub returns-then-n : goal.returns-then-n
returns-then-n c =
    let refuses = count_refuses_cleared _ _ _ c.args.out.now c.requires.p_value c.if-n.true in
    record { answer = refuses.0; output = refuses.1 }

pub read_checked-requires : goal.read_checked-requires
read_checked-requires c =
    record {
      p_value = c.requires.p_value;
      le_n = count_in_range _ c.if-n.false;
      able = c.requires.able;
    }

pub returns : goal.returns
returns c =
    let (answer, output) = checked_is_field _ _ _ c.args.out.now c.requires.p_value c.if-n.false in
    record { answer = c.read_checked.ensures.answer ∙ answer; output = c.read_checked.ensures.output ∙ output }

-- Why `fields::reader::deliver` fills the output or turns it away: its one test is that of 9. Rests on no axiom.
use mathlib.Core.Path.{◌∙◌}
use borrow.Author.Tests.{lt-ltb, le-ltb}
use Rattle.lists.proofs.StoreLaws.{stored_at_front_fills}
use Rattle.fields.specs.machine.Gather.{deliver_rule, deliver_reading, deliver_output}
use Rattle.fields.proofs.reader.deliver.Goals as goal

pub returns-then-out-items : goal.returns-then-out-items
unfolding deliver_reading deliver_output deliver_rule
returns-then-out-items c =
    record {
      answer = rw (lt-ltb _ _ c.if-out-items.true);
      output = rw (lt-ltb _ _ c.if-out-items.true);
    }

pub returns : goal.returns
unfolding deliver_reading deliver_output deliver_rule
returns c =
    let room = c.if-out-items.false in
    record {
      answer = rw (le-ltb _ _ room);
      output = rw (le-ltb _ _ room) (c.store.ensures ∙ stored_at_front_fills _ _ room);
    }

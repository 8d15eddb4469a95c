-- Why `merge::output::put_taken` stores the copy taken: it is the one set's copy or the other's. Rests on no axiom.
use Rattle.merge.proofs.ChoiceLaws.{single_entries}
use Rattle.merge.proofs.OutputLaws.{taken_is_one_of_them}
use Rattle.merge.proofs.output.put_taken.Goals as goal

pub put_entry-requires : goal.put_entry-requires
put_entry-requires c =
    let pre = c.requires in (
      pre.1,
      (single_entries _ _ _ _ pre.2).1,
      rw (taken_is_one_of_them, ← c.takes_second.ensures, c.if-takes_second.true) at pre.3,
    )

pub returns-then-takes_second : goal.returns-then-takes_second
returns-then-takes_second c =
    record {
      next = rw (taken_is_one_of_them, ← c.takes_second.ensures, c.if-takes_second.true) c.put_entry.ensures.next;
      output = rw (taken_is_one_of_them, ← c.takes_second.ensures, c.if-takes_second.true) c.put_entry.ensures.output;
    }

pub put_entry-requires-2 : goal.put_entry-requires-2
put_entry-requires-2 c =
    let pre = c.requires in (
      pre.0,
      (single_entries _ _ _ _ pre.2).0,
      rw (taken_is_one_of_them, ← c.takes_second.ensures, c.if-takes_second.false) at pre.3,
    )

pub returns : goal.returns
returns c =
    record {
      next = rw (taken_is_one_of_them, ← c.takes_second.ensures, c.if-takes_second.false) c.put_entry-2.ensures.next;
      output = rw (taken_is_one_of_them, ← c.takes_second.ensures, c.if-takes_second.false) c.put_entry-2.ensures.output;
    }

-- Why `merge::output::taken_size` answers the number of bytes of the copy taken: it is the one set's copy or the
-- other's. Rests on no axiom.
use Rattle.merge.proofs.ChoiceLaws.{single_entries}
use Rattle.merge.proofs.OutputLaws.{taken_is_one_of_them}
use Rattle.merge.proofs.output.taken_size.Goals as goal

pub entry_size-requires : goal.entry_size-requires
entry_size-requires c = let pre = c.requires in (pre.1, (single_entries _ _ _ _ pre.2).1)

pub returns-then-takes_second : goal.returns-then-takes_second
returns-then-takes_second c =
    rw (taken_is_one_of_them, ← c.takes_second.ensures, c.if-takes_second.true)
    c.entry_size.ensures

pub entry_size-requires-2 : goal.entry_size-requires-2
entry_size-requires-2 c = let pre = c.requires in (pre.0, (single_entries _ _ _ _ pre.2).0)

pub returns : goal.returns
returns c =
    rw (taken_is_one_of_them, ← c.takes_second.ensures, c.if-takes_second.false)
    c.entry_size-2.ensures

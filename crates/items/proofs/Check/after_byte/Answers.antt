-- `Check::after_byte` is the definition in its two cases, each of its parts by call.
use Rattle.items.specs.Written.{after_mark, after_data, after_byte}
use Rattle.items.proofs.Check.after_byte.Goals as goal

pub returns-then-is_mark : goal.returns-then-is_mark
unfolding after_byte after_mark after_data
returns-then-is_mark c =
    let mark = c.is_mark.ensures in
    rw (← mark, c.if-is_mark.true, c.feed.ensures, c.before_mark.ensures)

pub returns : goal.returns
unfolding after_byte after_mark after_data
returns c = rw (← c.is_mark.ensures, c.if-is_mark.false, c.feed-2.ensures)

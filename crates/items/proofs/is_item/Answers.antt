-- `is_item` makes the definition's tests in its order, the last two by call.
use borrow.Author.Tests.{lt-ltb, le-ltb}
use Rattle.items.specs.Item.{is_byte, is_item}
use Rattle.items.proofs.is_item.Goals as goal

pub returns-then-n-lt256 : goal.returns-then-n-lt256
unfolding is_item is_byte
returns-then-n-lt256 c = rw (lt-ltb _ _ c.if-n-lt256.true)

pub returns-then-is_mark : goal.returns-then-is_mark
unfolding is_item is_byte
returns-then-is_mark c = rw (le-ltb _ _ c.if-n-lt256.false, ← c.is_mark.ensures, c.if-is_mark.true)

pub returns : goal.returns
unfolding is_item is_byte
returns c =
    rw (le-ltb _ _ c.if-n-lt256.false, ← c.is_mark.ensures, c.if-is_mark.false)
    c.is_check.ensures

-- Why `Cursor::after` is `cursor_of`: it copies the edges. Rests on no axiom.
use Rattle.timing.specs.Class.{cursor_of}
use Rattle.timing.proofs.cursor.Cursor.after.Goals as goal

pub returns-then-two : goal.returns-then-two
unfolding cursor_of
returns-then-two c = rw c.if-two.true

pub returns-else-two : goal.returns-else-two
unfolding cursor_of
returns-else-two c = rw c.if-two.false

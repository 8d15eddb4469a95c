-- Why `Cursor::start` is `at_start`: it stands behind an interval of class 2. Rests on no axiom.
use Rattle.timing.specs.Class.{at_start}
use Rattle.timing.proofs.cursor.Cursor.start.Goals as goal

pub returns : goal.returns
unfolding at_start
returns c = c.after.ensures

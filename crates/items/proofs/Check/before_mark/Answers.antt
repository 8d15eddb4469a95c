-- `Check::before_mark` makes the definition's test.
use Rattle.items.specs.Written.{before_mark}
use Rattle.items.proofs.Check.before_mark.Goals as goal

pub returns-then-self : goal.returns-then-self
unfolding before_mark
returns-then-self c = rw c.if-self.true

pub returns-else-self : goal.returns-else-self
unfolding before_mark
returns-else-self c = rw c.if-self.false

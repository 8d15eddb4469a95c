-- `is_mark` makes the definition's two tests in its order.
use borrow.Author.Tests.{eq-eqb, ne_eqb}
use Rattle.items.specs.Item.{is_mark}
use Rattle.items.proofs.is_mark.Goals as goal

pub returns-then-n-eq-MARK_A1 : goal.returns-then-n-eq-MARK_A1
unfolding is_mark
returns-then-n-eq-MARK_A1 c = rw (eq-eqb _ _ c.if-n-eq-MARK_A1.true)

pub returns-else-n-eq-MARK_A1 : goal.returns-else-n-eq-MARK_A1
unfolding is_mark
returns-else-n-eq-MARK_A1 c = rw (ne_eqb _ _ c.if-n-eq-MARK_A1.false)

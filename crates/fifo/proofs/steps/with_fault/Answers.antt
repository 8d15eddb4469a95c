-- Why `with_fault` answers `with_bit`: code and definition test the register for 0.
use borrow.Author.Tests.{eq-eqb, ne_eqb}
use Rattle.fifo.specs.Sides.{first_bit}
use Rattle.fifo.proofs.steps.with_fault.Goals as goal

pub returns-then-fifo-eq0 : goal.returns-then-fifo-eq0
unfolding first_bit
returns-then-fifo-eq0 c = rw (eq-eqb _ _ c.if-fifo-eq0.true)

pub returns-else-fifo-eq0 : goal.returns-else-fifo-eq0
unfolding first_bit
returns-else-fifo-eq0 c = rw (ne_eqb _ _ c.if-fifo-eq0.false)

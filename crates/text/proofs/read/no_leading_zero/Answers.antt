-- Why `text::no_leading_zero` answers `no_leading_zero`: they part fields alike, into those of no character, of one and
-- of more. Rests on no axiom.
use borrow.Author.Tests.{eq-eqb, ne_eqb}
use Rattle.text.proofs.DecimalLaws.{no_leading_zero_by_length}
use Rattle.text.proofs.read.no_leading_zero.Goals as goal

pub returns-then-field-eq0 : goal.returns-then-field-eq0
returns-then-field-eq0 c = rw (no_leading_zero_by_length, eq-eqb _ 0 c.if-field-eq0.true)

pub returns-then-field-eq1 : goal.returns-then-field-eq1
returns-then-field-eq1 c = rw (no_leading_zero_by_length, ne_eqb _ 0 c.if-field-eq0.false, eq-eqb _ 1 c.if-field-eq1.true)

pub returns : goal.returns
returns c = rw (no_leading_zero_by_length, ne_eqb _ 0 c.if-field-eq0.false, ne_eqb _ 1 c.if-field-eq1.false)

-- Why `put` answers its rule: the processor puts in write mode, which the code's test of the mode tells.
use mathlib.Core.Path.{◌∙◌}
use borrow.Author.Tests.{eq-eqb, ne_eqb}
use Rattle.fifo.specs.Rules.{put_rule}
use Rattle.fifo.specs.State.{mode_of}
use Rattle.fifo.proofs.Fifo.put.Goals as goal

pub returns-then-self-eq0 : goal.returns-then-self-eq0
unfolding put_rule mode_of
returns-then-self-eq0 c = record { outcome = c.append.ensures ∙ rw (c.from.ensures, eq-eqb _ 0 c.if-self-eq0.true) }

pub returns-else-self-eq0 : goal.returns-else-self-eq0
unfolding put_rule mode_of
returns-else-self-eq0 c = record { outcome = c.given.ensures ∙ rw (ne_eqb _ 0 c.if-self-eq0.false) }

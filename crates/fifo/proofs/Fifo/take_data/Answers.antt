-- Why `take_data` answers its rule: the processor takes in read mode, which the code's test of the mode tells.
use mathlib.Core.Path.{◌∙◌}
use borrow.Author.Tests.{eq-eqb, ne_eqb}
use Rattle.fifo.specs.Rules.{take_rule}
use Rattle.fifo.specs.State.{mode_of}
use Rattle.fifo.proofs.Fifo.take_data.Goals as goal

pub returns-then-self-eq0 : goal.returns-then-self-eq0
unfolding take_rule mode_of
returns-then-self-eq0 c = record { outcome = c.given.ensures ∙ rw (eq-eqb _ 0 c.if-self-eq0.true) }

pub returns-else-self-eq0 : goal.returns-else-self-eq0
unfolding take_rule mode_of
returns-else-self-eq0 c =
    record {
      outcome =
          c.shift.ensures ∙ rw (c.from.ensures, c.from-else-self-eq0.ensures, ne_eqb _ 0 c.if-self-eq0.false);
    }

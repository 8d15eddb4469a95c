-- Why `without_first` answers the tail: below two held nothing is left, from two on the second item.
use mathlib.Core.Path.{◌∙◌}
use borrow.Author.Tests.{lt-ltb, le-ltb}
use Rattle.fifo.specs.State.{held_items}
use Rattle.fifo.proofs.StateLaws.{rest_of_items}
use Rattle.fifo.proofs.steps.without_first.Goals as goal

pub returns-then-fifo-lt2 : goal.returns-then-fifo-lt2
unfolding held_items
returns-then-fifo-lt2 c = c.with_items.ensures ∙ rw (rest_of_items, lt-ltb _ 2 c.if-fifo-lt2.true)

pub returns-else-fifo-lt2 : goal.returns-else-fifo-lt2
unfolding held_items
returns-else-fifo-lt2 c = c.with_items-else-fifo-lt2.ensures ∙ rw (rest_of_items, le-ltb _ 2 c.if-fifo-lt2.false)

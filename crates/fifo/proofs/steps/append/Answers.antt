-- Why `append` answers `putting`: its branches are the cases of the definition, in the same order.
use mathlib.Core.Path.{◌∙◌, ap}
use Rattle.fifo.specs.State.{held_items}
use Rattle.fifo.specs.Rules.{gives, putting}
use Rattle.fifo.proofs.StateLaws.{items_of_two}
use Rattle.fifo.proofs.steps.append.Goals as goal

pub returns-then-fifo-eq0 : goal.returns-then-fifo-eq0
unfolding putting held_items
returns-then-fifo-eq0 c =
    c.given.ensures ∙ ap (gives 0) c.with_items.ensures
    ∙ rw (← c.is_item.ensures, c.if-is_item.true, c.if-fifo-eq0.true)

pub returns-then-fifo-eq1 : goal.returns-then-fifo-eq1
unfolding putting held_items
returns-then-fifo-eq1 c =
    c.given-then-fifo-eq1.ensures ∙ ap (gives 0) c.with_items-then-fifo-eq1.ensures
    ∙ rw (← c.is_item.ensures, c.if-is_item.true, c.if-fifo-eq1.true)

pub returns-else-fifo-eq1 : goal.returns-else-fifo-eq1
unfolding putting
returns-else-fifo-eq1 c =
    c.given-else-fifo-eq1.ensures ∙ ap (gives 0) c.with_fault.ensures
    ∙ rw (
      ← c.is_item.ensures,
      c.if-is_item.true,
      items_of_two _ _ _ c.if-fifo-eq0.false c.if-fifo-eq1.false,
    )

pub returns-else-is_item : goal.returns-else-is_item
unfolding putting
returns-else-is_item c = c.not_an_item.ensures ∙ rw (← c.is_item.ensures, c.if-is_item.false)

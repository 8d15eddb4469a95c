-- Why `shift` answers `taking`: its branches are the cases of the definition.
use mathlib.Core.Path.{◌∙◌, ap}
use Rattle.fifo.specs.Rules.{gives, with_bit, taking}
use Rattle.fifo.proofs.StateLaws.{items_of_none, items_of_some, no_bit_keeps_register}
use Rattle.fifo.proofs.steps.shift.Goals as goal

pub returns-then-fifo-eq0 : goal.returns-then-fifo-eq0
unfolding taking
returns-then-fifo-eq0 c =
    c.given.ensures ∙ ap (gives 0) c.with_fault.ensures
    ∙ rw (items_of_none _ _ _ c.if-fifo-eq0.true)

pub returns-then-is_mark : goal.returns-then-is_mark
unfolding taking
returns-then-is_mark c =
    c.given-then-is_mark.ensures
    ∙ ap (gives _) (c.with_fault-then-is_mark.ensures ∙ ap (with_bit _) c.without_first.ensures)
    ∙ rw (
      items_of_some _ _ _ c.if-fifo-eq0.false,
      ← c.is_mark.ensures,
      c.if-is_mark.true,
    )

pub returns-else-is_mark : goal.returns-else-is_mark
unfolding taking
returns-else-is_mark c =
    c.given-else-is_mark.ensures ∙ ap (gives _) c.without_first-else-is_mark.ensures
    ∙ rw (
      items_of_some _ _ _ c.if-fifo-eq0.false,
      ← c.is_mark.ensures,
      c.if-is_mark.false,
      no_bit_keeps_register,
    )

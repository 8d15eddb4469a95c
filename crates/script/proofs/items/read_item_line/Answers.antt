-- Why `script::read_item_line` stores the items of a line: the word says which, and the fields after it are those that
-- `read_bytes` stores. Rests on no axiom.
use mathlib.Core.Path.{refl, sym}
use lib.Seq.{length-take-le}
use Rattle.script.specs.Line.{is_item_line, line_items}
use Rattle.script.proofs.BufferLaws.{faulty_read, items_read}
use Rattle.script.proofs.LineLaws.{word_ends_in_line, word_is_a_part, arguments_after_word}
use Rattle.script.proofs.items.read_item_line.Goals as goal

pub returns-then-same : goal.returns-then-same
unfolding is_item_line line_items
returns-then-same c =
    let put = c.put in
    rw (← c.same.ensures, c.if-same.true)
    (items_read refl record { size = put.ensures.next; output = put.ensures.output })

pub slice_bounds-same-end-2 : goal.slice_bounds-same-end-2
slice_bounds-same-end-2 c = sym (length-take-le _ _ (word_ends_in_line _ _ c.find-end.ensures))

pub returns-then-same-2 : goal.returns-then-same-2
unfolding is_item_line line_items
returns-then-same-2 c =
    rw (
      ← c.same.ensures,
      c.if-same.false,
      ← word_is_a_part _ _ c.find-end.ensures,
      ← c.same-2.ensures,
      c.if-same-2.true,
      ← arguments_after_word _ _ c.find-end.ensures,
    ) c.read_bytes.ensures

pub slice_bounds-same-end-4 : goal.slice_bounds-same-end-4
slice_bounds-same-end-4 c = sym (length-take-le _ _ (word_ends_in_line _ _ c.find-end.ensures))

pub returns-then-same-3 : goal.returns-then-same-3
unfolding is_item_line line_items
returns-then-same-3 c =
    rw (
      ← c.same.ensures,
      c.if-same.false,
      ← word_is_a_part _ _ c.find-end.ensures,
      ← c.same-2.ensures,
      c.if-same-2.false,
      ← c.same-3.ensures,
      c.if-same-3.true,
      ← arguments_after_word _ _ c.find-end.ensures,
    ) c.read_bytes-then-same-3.ensures

pub returns : goal.returns
unfolding is_item_line
returns c =
    faulty_read (rw (
      ← c.same.ensures,
      c.if-same.false,
      ← word_is_a_part _ _ c.find-end.ensures,
      ← c.same-2.ensures,
      c.if-same-2.false,
      ← c.same-3.ensures,
      c.if-same-3.false,
    ))

-- Why `script::read_items` stores the items of all lines: the answer is that of the lines left, counted on, and storing
-- their items after those before comes out as storing all. Rests on no axiom.
use Prim.Native.Nat.{ℕ, ◌+◌, ◌-◌, ◌≤◌, ◌<◌}
use mathlib.Core.Path.{◌≡◌, refl, sym, ◌∙◌, ap}
use mathlib.Core.Logic.{◌≢◌}
use mathlib.Core.List.{List}
use native.Mathlib.Numerals.{add-one}
use native.Mathlib.Omega.{arith}
use borrow.Author.Tests.{lt-ltb}
use lib.ListN.{length, take, drop, length-take, length-drop, drop_of_length-le}
use Rattle.text.specs.Ascii.{line_feed}
use Rattle.text.specs.Pieces.{pieces_of, up_to}
use Rattle.script.specs.Input.{garbled_from, items_of_lines}
use Rattle.std.specs.Prelude.{is_some}
use Rattle.script.proofs.BufferLaws.{all_is_left, rest_is_left, nothing_is_left}
use Rattle.script.proofs.ByteLaws.{few_items}
use Rattle.script.proofs.InputLaws.{line_ends_in_text, lines_next, no_line_feed, garbled_next, items_next}
use Rattle.script.proofs.InputLaws.{lines_refused, lines_read}
use Rattle.script.proofs.items.read_items.Goals as goal

-- a line that ends in a line feed
line_found
    : (text : List ℕ) (at end : ℕ)
    → at ≤ length text
    → end ≡ at + length (up_to line_feed (drop at text))
    → end ≢ length text
    → end < length text
line_found text at end h e k = omega (arith, line_ends_in_text text at end h e)

pub loop-at-init : goal.loop-at-init
loop-at-init c = (omega arith, refl, omega arith, omega arith, refl, all_is_left)

pub returns-then-end-text : goal.returns-then-end-text
unfolding garbled_from
returns-then-end-text c =
    let text = c.args.text.now in
    lines_refused (sym c.loop-at.invariant.4
    ∙ rw (
      no_line_feed text _ _ c.loop-at.invariant.0 c.find-end.ensures c.if-end-text.true,
      lt-ltb 0 (length (drop c.loop-at.at text))
          (omega (arith, length-drop c.loop-at.at text, c.loop-at-test.true)),
    ))

pub slice_bounds-read_item_line-count : goal.slice_bounds-read_item_line-count
slice_bounds-read_item_line-count c = omega (arith, c.find-end.ensures)

pub slice_bounds-read_item_line-start : goal.slice_bounds-read_item_line-start
slice_bounds-read_item_line-start c = omega (arith, c.find-end.ensures)

pub slice_bounds-read_item_line-end : goal.slice_bounds-read_item_line-end
slice_bounds-read_item_line-end c = line_ends_in_text _ _ _ c.loop-at.invariant.0 c.find-end.ensures

pub read_item_line-requires : goal.read_item_line-requires
read_item_line-requires c =
    let text = c.args.text.now in
    let size = length-take (c.find-end.result - c.loop-at.at) (drop c.loop-at.at text) in
    omega (arith, length-drop c.loop-at.at text, c.loop-at.invariant, c.requires)

pub shape_of-buffer-in-None : goal.shape_of-buffer-in-None
shape_of-buffer-in-None c = c.read_item_line.auto.buffer ∙ c.loop-at.invariant.1

pub returns-in-None : goal.returns-in-None
returns-in-None c =
    let found = line_found _ _ _ c.loop-at.invariant.0 c.find-end.ensures c.if-end-text.false in
    let next = lines_next _ _ _ c.loop-at.invariant.0 c.find-end.ensures found in
    let faulty =
    sym c.read_item_line.ensures.verdict
    ∙ ap is_some c.in-None.is in
    lines_refused (sym c.loop-at.invariant.4 ∙ rw (next, garbled_next, faulty))

pub overflow_add-at : goal.overflow_add-at
overflow_add-at c = omega (arith, line_found _ _ _ c.loop-at.invariant.0 c.find-end.ensures c.if-end-text.false)

pub overflow_add-line : goal.overflow_add-line
overflow_add-line c = omega (arith, c.loop-at.invariant.0, c.loop-at.invariant.3, c.requires.1)

pub loop-at-smaller : goal.loop-at-smaller
loop-at-smaller c = omega (arith, line_found _ _ _ c.loop-at.invariant.0 c.find-end.ensures c.if-end-text.false, c.find-end.ensures)

pub loop-at-preserved : goal.loop-at-preserved
loop-at-preserved c =
    let found = line_found _ _ _ c.loop-at.invariant.0 c.find-end.ensures c.if-end-text.false in
    let next = lines_next _ _ _ c.loop-at.invariant.0 c.find-end.ensures found in
    let text = drop c.loop-at.at c.args.text.now in
    let size = c.find-end.result - c.loop-at.at in
    let good = sym c.read_item_line.ensures.verdict ∙ ap is_some c.in-Some.is in
    let stored = c.read_item_line.ensures.stored _ c.in-Some.is in (
      omega (arith, found),
      c.read_item_line.auto.buffer ∙ c.loop-at.invariant.1,
      omega (
        arith,
        stored.size,
        few_items (take size text),
        length-take size text,
        c.loop-at.invariant.2,
        c.find-end.ensures,
      ),
      omega (arith, c.loop-at.invariant.3, c.find-end.ensures),
      rw (add-one c.loop-at.line) (rw (next, garbled_next, good) at c.loop-at.invariant.4),
      rest_is_left stored (rw (next, items_next) at c.loop-at.invariant.5),
    )

pub returns : goal.returns
unfolding garbled_from items_of_lines pieces_of
returns c =
    let none = drop_of_length-le c.args.text.now c.loop-at-test.false in
    lines_read (sym c.loop-at.invariant.4 ∙ rw none) (nothing_is_left (rw none at c.loop-at.invariant.5))

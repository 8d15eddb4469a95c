-- Why `dots::count_dots` counts the dots of a page: ten times three rows in columns, and a line. Rests on no axiom.
use Prim.Native.Nat.{ℕ, ◌+◌, ◌*◌, ◌≤◌, ◌<◌}
use mathlib.Core.Path.{◌≡◌, refl, sym, ◌∙◌}
use native.Mathlib.Nat.{add-sub_cancel_left}
use native.Mathlib.Omega.{arith}
use lib.ListN.{get_or}
use Rattle.page.specs.Page.{dots_of}
use Rattle.page.proofs.ColumnLaws.{no_columns, zero_column, dots_of_none, dots_of_stretch, dots_at_most, dots_of_page}
use Rattle.page.proofs.dots.count_dots.Goals as goal

-- both parts are the whole
whole
    : (c : goal.After-count_line)
    → let page = c.args.page.now in
    (c.sum_columns.result + c.count_line.result ≡ dots_of page) × (dots_of page ≤ 8000)
whole c =
    let turn = c.loop-turn in
    let page = c.args.page.now in
    let last : turn.turn ≡ 10 = omega (arith, turn.auto.turn-end, c.loop-turn-test.false) in
    let rows = c.sum_columns.ensures ∙ rw last at turn.invariant.1 in
    let bytes : (j : ℕ) → get_or page j 0 < 256 = λ j.
    omega (arith, c.type_inv.page j) in
    let most = dots_at_most page bytes in (
      omega (arith, rows, c.count_line.ensures, dots_of_page page c.requires),
      omega (arith, most, c.requires),
    )

pub loop-turn-init : goal.loop-turn-init
loop-turn-init c = (refl, no_columns ∙ sym dots_of_none, λ j. omega (arith, zero_column 32 j))

pub loop-turn-preserved : goal.loop-turn-preserved
loop-turn-preserved c =
    let turn = c.loop-turn in
    let page = c.args.page.now in
    let sum = rw add-sub_cancel_left at c.add_rows.ensures.sum in
    let next = dots_of_stretch (96 * turn.turn) 96 page in
    let at : 96 * (turn.turn + 1) ≡ 96 * turn.turn + 96 = omega arith in (
      c.add_rows.ensures.size,
      rw at (omega (arith, sum, turn.invariant.1, next)),
      λ j. omega (arith, c.add_rows.ensures.each j, turn.invariant.2 j),
    )

pub overflow_add-result : goal.overflow_add-result
overflow_add-result c = omega (arith, whole c)

pub returns : goal.returns
returns c = (whole c).0

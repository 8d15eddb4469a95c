-- Why `codec::pen::draw_closing` closes a list: the window that the two closing 0s end, and the cell behind it. Rests
-- on no axiom.
use Prim.Native.Nat.{ℕ, ◌+◌, ◌*◌, ◌%◌}
use mathlib.Core.Path.{◌≡◌, ap, ◌∙◌}
use native.Mathlib.Omega.{arith}
use lib.ListN.{length, get_or, set}
use Rattle.codec.specs.machine.Pen.{Drawing, drawing, first_window, closed}
use Rattle.codec.proofs.PenLaws.{entered-length}
use borrow.Author.Rules.{rules}
use Rattle.codec.proofs.pen.draw_closing.Goals as goal

-- no bit is 1
as_window : (previous : ℕ) → previous % 16 * 4 ≡ first_window previous 0
as_window previous = omega arith

pub enter-at-requires : goal.enter-at-requires
unfolding closed
enter-at-requires c =
    let window = as_window c.args.pen.previous in
    record { window_bound = rw window (omega arith); window_in_bounds = rw window (omega (arith, c.requires)) }

pub bounds-out-at : goal.bounds-out-at
unfolding closed
bounds-out-at c =
    let e = rw (as_window c.args.pen.previous) at c.enter-at.ensures in
    let start = drawing c.args.pen.cells c.args.out.now in
    let cells = ap (λ (d : Drawing). d.cells) e in
    let same =
    ap (λ (d : Drawing). length d.out) e
    ∙ entered-length c.args.table.now start (first_window c.args.pen.previous 0) in
    omega (arith, c.requires)

pub offset_bounds-out-at : goal.offset_bounds-out-at
offset_bounds-out-at c = let inside = bounds-out-at c in search rules

pub overflow_add-result : goal.overflow_add-result
overflow_add-result c = let inside = bounds-out-at c in search rules

pub returns : goal.returns
unfolding closed
returns c =
    let e = rw (as_window c.args.pen.previous) at c.enter-at.ensures in
    ap (λ (d : Drawing). drawing (d.cells + 1)
    (set d.out d.cells (get_or c.args.table.now (c.args.pen.previous % 4 * 32) 0))) e

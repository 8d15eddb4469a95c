-- Why `dots::count_line` counts the dots of a line: those so far are counted from turn to turn. Rests on no axiom.
use Prim.Native.Nat.{ℕ, ◌≤◌, ◌<◌}
use mathlib.Core.Path.{◌≡◌, sym}
use native.Mathlib.Numerals.{add-one}
use native.Mathlib.Omega.{arith}
use lib.Count.{ones}
use lib.ListN.{length, get_or}
use Rattle.page.specs.Page.{dots_of_cell}
use Rattle.page.proofs.CellLaws.{ones_are_dots, dots_are_few}
use Rattle.page.proofs.ColumnLaws.{dots_of_none, dots_of_next}
use Rattle.page.proofs.dots.count_line.Goals as goal

-- the ones of a byte are the dots of a cell
counted : (cell : ℕ) → cell < 256 → (ones cell ≡ dots_of_cell cell) × (dots_of_cell cell ≤ 8)
counted cell byte = (ones_are_dots cell byte, dots_are_few cell byte)

pub loop-cell-init : goal.loop-cell-init
loop-cell-init c = (omega arith, sym dots_of_none)

pub loop-cell-preserved : goal.loop-cell-preserved
loop-cell-preserved c =
    let turn = c.loop-cell in
    let line = c.args.line.now in
    let here = counted (get_or line turn.cell-index 0) (omega (arith, c.type_inv.line turn.cell-index)) in
    let inside : turn.cell-index < length line = omega (arith, c.requires) in
    let next = dots_of_next line turn.cell-index inside in (
      omega (arith, here.0, here.1, turn.invariant.0),
      rw add-one (omega (arith, here.0, turn.invariant.1, next)),
    )

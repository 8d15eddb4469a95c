use Prim.Native.Nat.{◌*◌, ◌≤◌}
use mathlib.Core.Path.{◌≡◌}
use lib.ListN.{take}
use Rattle.page.specs.Page.{dots_of}
use Rattle.page.proofs.dots.count_line.Given as goal

abbrev pub invariant-loop-cell : goal.invariant-loop-cell
invariant-loop-cell l = (l.dots ≤ 8 * l.cell-index) × (l.dots ≡ dots_of (take l.cell-index l.line))

use Prim.Native.Nat.{◌*◌, ◌≤◌}
use mathlib.Core.Path.{◌≡◌}
use lib.ListN.{take}
use Rattle.lists.specs.Sum.{sum_of}
use Rattle.page.proofs.dots.sum_columns.Given as goal

abbrev pub invariant-loop-column : goal.invariant-loop-column
invariant-loop-column l = (l.sum ≤ 255 * l.column-index) × (l.sum ≡ sum_of (take l.column-index l.columns))

use Prim.Native.Nat.{◌+◌}
use mathlib.Core.Path.{◌≡◌}
use lib.ListN.{length}
use Rattle.lists.specs.Filled.{stored_at}
use Rattle.strip.proofs.OutputLaws.{cells_left}
use Rattle.strip.proofs.output.append_cells.Given as goal

abbrev pub invariant-loop-place : goal.invariant-loop-place
invariant-loop-place l =
    (length l.out ≡ length l.initial.out)
    × (l.end + length (cells_left l.cursor l.place l.stream) ≡ l.at + length (cells_left l.initial.cursor 0 l.stream))
    × (stored_at l.out l.end (cells_left l.cursor l.place l.stream) ≡ stored_at l.initial.out l.at (cells_left l.initial.cursor 0 l.stream))

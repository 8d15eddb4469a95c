use Prim.Native.Nat.{◌+◌, ◌≤◌}
use mathlib.Core.Path.{◌≡◌}
use lib.ListN.{length}
use Rattle.lists.specs.Filled.{stored_at}
use Rattle.merge.specs.Rule.{result}
use Rattle.merge.proofs.AscendingLaws.{bytes_from}
use Rattle.merge.proofs.ascending.write_merged.Given as goal

abbrev pub invariant-loop-n : goal.invariant-loop-n
invariant-loop-n l =
    (l.n ≤ 256)
    × (length l.out ≡ length l.initial.out)
    × (l.start + length (bytes_from l.first l.second l.n) ≤ length l.initial.out)
    × (stored_at l.out l.start (bytes_from l.first l.second l.n) ≡ stored_at l.initial.out 0 (result l.first l.second))

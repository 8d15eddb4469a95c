use Prim.Native.Nat.{◌+◌, ◌*◌, ◌≤◌}
use mathlib.Core.Path.{◌≡◌}
use lib.ListN.{length}
use Rattle.merge.specs.Rule.{result}
use Rattle.merge.proofs.AscendingLaws.{bytes_from}
use Rattle.merge.proofs.ascending.merged_size.Given as goal

abbrev pub invariant-loop-n : goal.invariant-loop-n
invariant-loop-n l =
    (l.n ≤ 256)
    × (l.size ≤ 1027 * l.n)
    × (l.size + length (bytes_from l.first l.second l.n) ≡ length (result l.first l.second))

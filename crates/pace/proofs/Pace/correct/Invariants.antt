use Prim.Native.Nat.{◌<◌}
use mathlib.Core.Path.{◌≡◌}
use lib.ListN.{length, drop}
use Rattle.lists.specs.Filled.{stored_at}
use Rattle.pace.specs.machine.Cut.{cut_from}
use Rattle.pace.proofs.Pace.correct.Given as goal

abbrev pub invariant-loop-k : goal.invariant-loop-k
invariant-loop-k l =
    (length l.out ≡ length l.initial.out)
    × (0 < l.own)
    × (0 < l.other)
    × (stored_at l.out l.k (cut_from l.nominal l.own l.other (drop l.k l.intervals))
    ≡ stored_at l.initial.out 0 (cut_from l.nominal l.initial.own l.initial.other l.intervals))

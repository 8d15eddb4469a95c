use Rattle.std.proofs.Common.{◌≡◌, suc, map, length, drop}
use Rattle.lists.specs.Filled.{stored_at}
use Rattle.intervals.specs.machine.Either.{kind_mask}
use Rattle.intervals.proofs.units.mark_kinds.Given as goal

abbrev pub invariant-loop-k : goal.invariant-loop-k
invariant-loop-k l =
    (length l.kinds ≡ length l.initial.kinds)
    × (stored_at l.kinds (suc l.k) (map (kind_mask l.c) (drop l.k l.intervals)) ≡ stored_at l.initial.kinds 1 (map (kind_mask l.c) l.intervals))

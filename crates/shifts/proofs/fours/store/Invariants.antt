use Rattle.std.proofs.Common.{◌≡◌, ◌+◌, map, length, drop}
use Rattle.lists.specs.Filled.{stored_at}
use Rattle.shifts.specs.machine.Fours.{alone}
use Rattle.shifts.proofs.fours.store.Given as goal

abbrev pub invariant-loop-k : goal.invariant-loop-k
invariant-loop-k l =
    (length l.out ≡ length l.initial.out)
    × (stored_at l.out (l.at + l.k) (drop l.k (map alone l.words)) ≡ stored_at l.initial.out l.at (map alone l.words))

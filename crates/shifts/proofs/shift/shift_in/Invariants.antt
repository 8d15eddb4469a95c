use Rattle.std.proofs.Common.{◌<◌}
use Rattle.shifts.proofs.ShiftInTurn.{Shifting}
use Rattle.shifts.proofs.shift.shift_in.Given as goal

abbrev pub invariant-loop-k : goal.invariant-loop-k
invariant-loop-k l =
    Shifting l.most l.from l.to l.initial.m l.units l.initial.out l.out l.m l.store_at l.k × (l.m.words < l.most)

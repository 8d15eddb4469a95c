use Rattle.shifts.proofs.ShiftEightsTopped.{Topping}
use Rattle.shifts.proofs.fours.shift_eights.Given as goal

abbrev pub invariant-loop-i : goal.invariant-loop-i
invariant-loop-i l = Topping l.eights l.start l.units l.words l.t l.count l.i

use Rattle.intervals.proofs.FillBehindTurn.{Filling}
use Rattle.intervals.proofs.units.fill_behind.Given as goal

abbrev pub invariant-loop-k : goal.invariant-loop-k
invariant-loop-k l = Filling l.c l.intervals l.kinds l.initial.units l.units l.k

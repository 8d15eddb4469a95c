use Rattle.report.proofs.GatherTurn.{Gathered}
use Rattle.report.proofs.list.gather.Given as goal

abbrev pub invariant-loop-interval : goal.invariant-loop-interval
invariant-loop-interval l = Gathered l.initial.cursor l.intervals l.cursor l.rows l.interval-index

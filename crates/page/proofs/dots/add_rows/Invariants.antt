use Rattle.page.proofs.ColumnLaws.{Grown}
use Rattle.page.proofs.dots.add_rows.Given as goal

abbrev pub invariant-loop-k : goal.invariant-loop-k
invariant-loop-k l = Grown l.rows l.initial.columns l.columns l.k

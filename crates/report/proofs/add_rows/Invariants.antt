use mathlib.Core.Path.{◌≡◌}
use mathlib.Core.List.{◌++◌}
use lib.ListN.{take, drop}
use Rattle.report.specs.Report.{add_reports, no_report}
use Rattle.report.proofs.add_rows.Given as goal

abbrev pub invariant-loop-k : goal.invariant-loop-k
invariant-loop-k l = l.rows ≡ take l.k (add_reports l.a l.b) ++ drop l.k no_report

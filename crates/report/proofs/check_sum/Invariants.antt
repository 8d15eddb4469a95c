use mathlib.Core.Path.{◌≡◌}
use lib.ListN.{drop}
use Rattle.lists.specs.Place.{anywhere}
use Rattle.report.specs.Row.{is_overlarge}
use Rattle.report.specs.Report.{add_reports}
use Rattle.report.proofs.check_sum.Given as goal

abbrev pub invariant-loop-k : goal.invariant-loop-k
invariant-loop-k l =
    anywhere is_overlarge (drop l.k (add_reports l.a l.b)) ≡ anywhere is_overlarge (add_reports l.a l.b)

-- Document 02, (i): the causes of the drive report and of adding two reports, in their turn. No lemmas here.
use Rattle.std.specs.Prelude.{ℕ, ◌<◌, ◌≡◌, true, List, length}
use Rattle.lists.specs.Place.{anywhere}
use Rattle.timing.specs.declared.Profile.{Profile}
use Rattle.report.specs.Row.{is_overlarge}
use Rattle.report.specs.Report.{Report, add_reports}
use Rattle.demands.specs.Order.{Order, accept, turn, at0}
use Rattle.demands.specs.Causes.{profile_order}

-- drive report: 1, 2, 4 (over 51,202 intervals)
abbrev pub report_order : Profile → List ℕ → Order
report_order p ds = profile_order p (turn 4 (at0 (51202 < length ds)) accept)

-- adding two reports: 4 (a count or sum would not fit in 64 bits)
abbrev pub add_order : Report → Report → Order
add_order a b = turn 4 (at0 (anywhere is_overlarge (add_reports a b) ≡ true)) accept

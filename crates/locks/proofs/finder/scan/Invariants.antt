use Prim.Native.Nat.{◌+◌, ◌-◌, ◌≤◌}
use mathlib.Core.Path.{◌≡◌}
use lib.ListN.{length}
use Rattle.runs.specs.machine.Scan.{Following}
use Rattle.locks.proofs.ScanTurn.{Searched}
use Rattle.locks.proofs.finder.scan.Given as goal

-- those from i up to k were looked at
abbrev pub invariant-loop-i : goal.invariant-loop-i
invariant-loop-i l =
    (l.first ≡ l.initial.first) × (l.seen ≡ l.initial.seen) × (l.seen ≤ l.i) × (l.i ≤ l.k) × Following l.short l.intervals l.i l.k

abbrev pub invariant-scan : goal.invariant-scan
invariant-scan l = (l.first ≤ length l.intervals + 1) × Searched l.p l.intervals l.first l.seen

abbrev pub decreases-scan : goal.decreases-scan
decreases-scan l = length l.intervals + 1 - l.first

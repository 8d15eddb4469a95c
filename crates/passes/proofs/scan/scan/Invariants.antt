use Rattle.passes.proofs.ScanLaws.{Scanning}
use Rattle.passes.proofs.scan.scan.Given as goal

abbrev pub invariant-loop-i : goal.invariant-loop-i
invariant-loop-i l = Scanning l.start l.units l.at.sum l.at.gap l.i

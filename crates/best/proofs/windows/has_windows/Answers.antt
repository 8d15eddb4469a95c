-- Why `has_windows` answers `has_windows`: it makes the definition's tests. Rests on no axiom.
use Rattle.best.specs.Best.{has_windows}
use Rattle.best.proofs.windows.has_windows.Goals as goal

pub returns : goal.returns
unfolding has_windows
returns c = rw c.shifts_of-s.ensures

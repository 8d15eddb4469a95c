-- `Cursor::units` is `units_in` itself, and never above 4. Rests on no axiom.
use Rattle.std.proofs.Common.{refl, arith}
use Rattle.timing.specs.machine.Edges.{units_in}
use Rattle.timing.proofs.UnitsLaws.{units_in_range}
use Rattle.timing.proofs.cursor.Cursor.units.Goals as goal

pub returns : goal.returns
unfolding units_in
returns c = refl

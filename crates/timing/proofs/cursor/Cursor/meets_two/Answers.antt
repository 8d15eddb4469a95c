-- Why `Cursor::meets_two` tells class 2: the difference from Min is below that of B23. Rests on no axiom.
use Rattle.std.proofs.Common.{arith}
use Rattle.timing.proofs.EdgeLaws.{two_by_difference}
use Rattle.timing.proofs.cursor.Cursor.meets_two.Goals as goal

pub returns : goal.returns
returns c = two_by_difference _ _ _ c.requires (omega arith) (omega arith) (omega arith)

-- Why `units::is_two` tells class 2: an interval from Min up and below B23 is of it, and no other. Rests on no axiom.
use Rattle.std.proofs.Common.{true}
use Rattle.timing.specs.Class.{behind}
use Rattle.timing.proofs.EdgeLaws.{two_by_edges}
use Rattle.intervals.proofs.units.is_two.Goals as goal

pub returns : goal.returns
unfolding behind
returns c = two_by_edges (behind c.args.c true) c.args.interval

-- Why `least::of_list` answers `least_clearance`: the list is gone through from its start, where the edges of an accepted profile
-- ascend; and no interval has the least 0. Rests on no axiom.
use Rattle.std.proofs.Common.{true, sym, arith}
use Rattle.clearance.specs.Clearance.{least_clearance}
use Rattle.timing.specs.Class.{at_start}
use Rattle.clearance.proofs.CursorLaws.{reachable}
use Rattle.clearance.proofs.LeastLaws.{least_from_none}
use Rattle.clearance.proofs.least.of_list.Goals as goal

pub returns-then-intervals-eq0 : goal.returns-then-intervals-eq0
unfolding least_clearance at_start
returns-then-intervals-eq0 c = sym (least_from_none _ _ c.if-intervals-eq0.true)

pub least_from-requires : goal.least_from-requires
unfolding least_clearance at_start
least_from-requires c =
    record {
      reachable = rw c.start.ensures (reachable _ true c.requires);
      intervals_nonzero = omega arith;
    }

pub returns : goal.returns
unfolding least_clearance at_start
returns c = rw (c.least_from.ensures, c.start.ensures)

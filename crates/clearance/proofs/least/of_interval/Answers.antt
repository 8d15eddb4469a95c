-- Why `least::of_interval` answers `clearance_of`: the least of one clearance is that clearance, and under an accepted profile
-- the edges ascend. Rests on no axiom.
use Rattle.std.proofs.Common.{arith}
use Rattle.clearance.specs.Clearance.{clearance_of}
use Rattle.clearance.proofs.CursorLaws.{reachable}
use Rattle.clearance.proofs.LeastLaws.{least_from_one}
use Rattle.clearance.proofs.least.of_interval.Goals as goal

pub least_from-requires : goal.least_from-requires
unfolding clearance_of
least_from-requires c =
    record {
      reachable = rw c.after.ensures (reachable _ _ c.requires);
      intervals_nonzero = omega arith;
    }

pub returns : goal.returns
unfolding clearance_of
returns c = rw (c.least_from.ensures, c.after.ensures, least_from_one)

-- Why clearances mean what they say: under an accepted profile the edges ascend wherever the classing stands, and
-- between ascending edges the formula gives the most by which an interval could move. Rests on no axiom.
use Rattle.std.proofs.Common.{true}
use Rattle.timing.specs.Class.{at_start}
use Rattle.clearance.specs.Clearance.{clearance_of, least_clearance}
use Rattle.clearance.specs.Claims.{ClearancesMeanIt}
use Rattle.clearance.proofs.CursorLaws.{reachable, reachable_after}
use Rattle.clearance.proofs.MostLaws.{clearance_is_the_most, clearance_is_one_number}
use Rattle.clearance.proofs.LeastLaws.{least_is_no_more, least_is_of_one}

pub clearances_mean_it : ClearancesMeanIt
unfolding clearance_of least_clearance at_start
clearances_mean_it p accepts =
    let start = reachable p true accepts in
    record {
      of_interval = λ two. clearance_is_the_most (reachable p two accepts);
      of_each = λ ds k h. clearance_is_the_most (reachable_after _ start) _;
      one_number = clearance_is_one_number;
      least_of_each = λ ds k h. least_is_no_more (at_start p) ds k h;
      least_is_there = λ ds some. least_is_of_one (at_start p) ds some;
    }

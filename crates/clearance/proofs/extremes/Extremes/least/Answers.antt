-- Why `Extremes::least` is `least_met`: it takes the definition's two rooms. Rests on no axiom.
use Rattle.std.proofs.Common.{min, ◌∙◌, ap₂}
use Rattle.clearance.specs.machine.Nearest.{least_met}
use Rattle.clearance.proofs.extremes.Extremes.least.Goals as goal

pub returns : goal.returns
unfolding least_met
returns c =
    let ends = rw (c.turned-2.ensures, c.turned.ensures) at c.room-outer.ensures in
    c.min.ensures ∙ ap₂ min ends c.room.ensures

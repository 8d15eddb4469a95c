-- Why `masks::mask_in` is `mask_in`: of class 2 the difference from Min is below that of B23. Rests on no axiom.
use Rattle.std.proofs.Common.{ap, ◌∙◌, arith}
use Rattle.timing.proofs.EdgeLaws.{two_by_difference}
use Rattle.clearance.specs.machine.Masks.{mask_of, mask_in}
use Rattle.clearance.proofs.masks.mask_in.Goals as goal

pub returns : goal.returns
unfolding mask_in
returns c =
    c.below.ensures
    ∙ ap mask_of (two_by_difference _ _ _ c.requires (omega arith)
    (omega (arith, c.well_formed)) (omega arith))

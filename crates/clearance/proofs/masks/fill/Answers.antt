-- Why `masks::fill` stores `masks_from`: where no interval lies between the two B23, each but the first is told by
-- itself. Rests on no axiom.
use Rattle.std.proofs.Common.{sym, ◌∙◌}
use Rattle.timing.proofs.EdgeLaws.{ascending_behind}
use Rattle.clearance.proofs.MaskLaws.{masks_of_block}
use Rattle.clearance.proofs.masks.fill.Goals as goal

pub fill_alike-requires : goal.fill_alike-requires
fill_alike-requires c =
    record {
      ascending = rw c.behind.ensures (ascending_behind _ _ c.requires.ascending);
      masks_len = c.requires.in_bounds.1;
    }

pub returns-then-all_sure : goal.returns-then-all_sure
returns-then-all_sure c =
    let alike = rw c.behind.ensures at c.fill_alike.ensures in
    let sure = sym c.all_sure.ensures ∙ c.if-all_sure.true in
    rw (alike, c.mask_in.ensures) (masks_of_block _ _ c.requires.in_bounds.0 sure)

-- Why `masks::fill_in_turn` stores `masks_from`: what is left to store stays the same from turn to turn. Rests on no
-- axiom.
use Rattle.std.proofs.Common.{◌≡◌, ℕ, length, sym, refl, ◌∙◌, add-one, arith, length-set, drop_of_length-le}
use Rattle.lists.proofs.StoreLaws.{stored_none, stored_one, stored_next, stored_over_all}
use Rattle.timing.proofs.EdgeLaws.{ascending_past}
use Rattle.clearance.specs.machine.Masks.{masks_from}
use Rattle.clearance.proofs.MaskLaws.{mask_in_is_mask, behind_mask, masks_none, masks_count, masks_here}
use Rattle.clearance.proofs.masks.fill_in_turn.Goals as goal

pub loop-k-init : goal.loop-k-init
loop-k-init c = (refl, c.requires.ascending, refl)

pub mask_in-mask-requires : goal.mask_in-mask-requires
mask_in-mask-requires c = c.loop-k.invariant.1

pub bounds-masks-k : goal.bounds-masks-k
bounds-masks-k c = omega (arith, c.loop-k-test.true, c.loop-k.invariant.0, c.requires.masks_len)

pub behind_mask-cursor-requires : goal.behind_mask-cursor-requires
behind_mask-cursor-requires c = rw c.mask_in-mask.ensures (mask_in_is_mask _ _)

pub loop-k-preserved : goal.loop-k-preserved
loop-k-preserved c =
    let inv = c.loop-k.invariant in
    let more = c.loop-k-test.true in
    let cursor = c.loop-k.cursor in
    rw (c.behind_mask-cursor.ensures, c.mask_in-mask.ensures, behind_mask, add-one) (
      length-set {A = ℕ} c.loop-k.masks c.loop-k.k _ ∙ inv.0,
      ascending_past cursor _ inv.1,
      stored_next _ _ _ _ _ _ (sym (stored_one _ _ _)) (sym (add-one _)) ∙ rw (masks_here cursor _ _ more) at inv.2,
    )

pub shape_of-masks : goal.shape_of-masks
shape_of-masks c = c.loop-k.invariant.0

pub returns : goal.returns
returns c =
    let (same, ascends, stored) = c.loop-k.invariant in
    let ds = c.args.intervals.now in
    let none = drop_of_length-le ds {i = c.loop-k.k} c.loop-k-test.false in
    let all = masks_from c.args.start ds in
    let room : length all ≡ length c.args.masks.now =
    masks_count c.args.start ds ∙ sym c.requires.masks_len in
    sym (stored_none _ _) ∙ rw (none, masks_none) at stored ∙ stored_over_all all c.args.masks.now room

-- Why `masks::fill_alike` stores the mask of each: what is left to store stays the same from turn to turn. Rests on no
-- axiom.
use Rattle.std.proofs.Common.{◌≡◌, ℕ, map, length, sym, refl, ◌∙◌, add-one, arith, length-set, drop_of_length-le, drop-cons}
use lib.ListN.{length-map}
use Rattle.lists.proofs.StoreLaws.{stored_none, stored_one, stored_next, stored_over_all}
use Rattle.clearance.specs.machine.Masks.{mask_in}
use Rattle.clearance.proofs.masks.fill_alike.Goals as goal

pub loop-k-init : goal.loop-k-init
loop-k-init c = (refl, refl)

pub meets_two-requires : goal.meets_two-requires
meets_two-requires c = c.requires.ascending

pub bounds-masks-k : goal.bounds-masks-k
bounds-masks-k c = omega (arith, c.loop-k-test.true, c.loop-k.invariant.0, c.requires.masks_len)

pub loop-k-preserved : goal.loop-k-preserved
unfolding mask_in
loop-k-preserved c =
    let inv = c.loop-k.invariant in
    let more = c.loop-k-test.true in
    let args = c.args in
    rw (c.mask_of.ensures, c.meets_two.ensures, add-one) (
      length-set {A = ℕ} c.loop-k.masks c.loop-k.k _ ∙ inv.0,
      stored_next _ _ _ _ _ _ (sym (stored_one _ _ _)) (sym (add-one _))
          ∙ rw (drop-cons args.intervals.now c.loop-k.k 0 more) at inv.1,
    )

pub shape_of-masks : goal.shape_of-masks
shape_of-masks c = c.loop-k.invariant.0

pub returns : goal.returns
returns c =
    let (same, stored) = c.loop-k.invariant in
    let ds = c.args.intervals.now in
    let none = drop_of_length-le ds {i = c.loop-k.k} c.loop-k-test.false in
    let all = map (mask_in c.args.cursor) ds in
    let room : length all ≡ length c.args.masks.now =
    length-map ds (mask_in c.args.cursor) ∙ sym c.requires.masks_len in
    sym (stored_none _ _) ∙ rw none at stored ∙ stored_over_all all c.args.masks.now room

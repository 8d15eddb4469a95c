-- Why `Seen::by_masks` is `seen_from`: each mask chooses the bounds behind its interval, and the last of them tells
-- where the classing stands. Rests on no axiom.
use Rattle.std.proofs.Common.{◌≡◌, ℕ, ◌-◌, List, length, drop, ap, ◌∙◌, ap₂, arith, length-drop, take_all}
use Rattle.timing.specs.declared.cursor.Cursor.{Cursor}
use Rattle.clearance.specs.machine.Masks.{masks_from}
use Rattle.clearance.proofs.SeenLaws.{seen_at}
use Rattle.clearance.proofs.MaskLaws.{masks_count, are_masks, block_is_seen}
use Rattle.clearance.proofs.seen.Seen.by_masks.Goals as goal

as_many : {xs : List ℕ} (c : Cursor) (ds : List ℕ) → xs ≡ masks_from c ds → length xs ≡ length ds
as_many c ds e = ap length e ∙ masks_count c ds

pub overflow_sub-last : goal.overflow_sub-last
overflow_sub-last c = omega (arith, c.requires.in_bounds, as_many _ _ c.requires.masks_value)

pub bounds-masks-masks : goal.bounds-masks-masks
bounds-masks-masks c = omega (arith, c.requires.in_bounds, as_many _ _ c.requires.masks_value)

pub extremes_by-requires : goal.extremes_by-requires
extremes_by-requires c =
    let ds = c.args.intervals.now in
    let rest = take_all (length ds - 1) (drop 1 ds) (rw (length-drop 1 ds) (omega arith)) in (
      rw rest (omega (arith, length-drop 1 ds, as_many _ _ c.requires.masks_value)),
      rw c.requires.masks_value (are_masks _ _),
    )

pub returns : goal.returns
returns c =
    let ds = c.args.intervals.now in
    let rest = take_all (length ds - 1) (drop 1 ds) (rw (length-drop 1 ds) (omega arith)) in
    let extremes = rw (c.past-first.ensures, rest, c.requires.masks_value) at c.extremes_by.ensures in
    let cursor = rw c.requires.masks_value at c.behind.ensures in
    ap₂ seen_at extremes cursor ∙ block_is_seen c.args.self ds c.requires.in_bounds

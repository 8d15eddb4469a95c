-- Why `blocks::extremes_by` is `masked_from`: what is left to meet stays the same from turn to turn. Rests on no axiom.
use Rattle.std.proofs.Common.{refl, add-one, arith, drop_of_length-le, drop-cons}
use Rattle.clearance.specs.machine.Nearest.{met_with}
use Rattle.clearance.specs.machine.Masks.{masked_from}
use Rattle.clearance.proofs.blocks.extremes_by.Goals as goal

pub loop-k-init : goal.loop-k-init
loop-k-init c = refl

pub bounds-masks-k : goal.bounds-masks-k
bounds-masks-k c = omega (arith, c.loop-k-test.true, c.requires.0)

pub bounds_by-bounds-requires : goal.bounds_by-bounds-requires
bounds_by-bounds-requires c =
    let pre = c.requires in
    pre.1.each _ (omega (arith, c.loop-k-test.true, pre.0))

pub loop-k-preserved : goal.loop-k-preserved
unfolding masked_from met_with
loop-k-preserved c =
    let k = c.loop-k.k in
    let here = drop-cons c.args.intervals.now k 0 c.loop-k-test.true in
    let there =
    drop-cons c.args.masks.now k 0 (omega (arith, c.loop-k-test.true, c.requires.0)) in
    rw (
      c.last-below.ensures,
      c.last_past.ensures,
      c.first-from.ensures,
      c.first_past.ensures,
      c.last-longest.ensures,
      c.first-shortest.ensures,
      c.bounds_by-bounds.ensures,
      add-one,
    ) (rw (here, there) at c.loop-k.invariant)

pub returns : goal.returns
unfolding masked_from
returns c =
    let ds = c.args.intervals.now in
    rw (drop_of_length-le ds {i = c.loop-k.k} c.loop-k-test.false) at c.loop-k.invariant

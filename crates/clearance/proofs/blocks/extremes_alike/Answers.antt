-- Why `blocks::extremes_alike` is `alike_from`: what is left to meet stays the same from turn to turn. Rests on no axiom.
use Rattle.std.proofs.Common.{refl, add-one, drop_of_length-le, drop-cons}
use Rattle.clearance.specs.machine.Nearest.{met_with, alike_from}
use Rattle.clearance.proofs.blocks.extremes_alike.Goals as goal

pub loop-interval-init : goal.loop-interval-init
loop-interval-init c = refl

pub loop-interval-preserved : goal.loop-interval-preserved
unfolding alike_from met_with
loop-interval-preserved c =
    let ds = c.args.intervals.now in
    rw (
      c.last-below.ensures,
      c.last_past.ensures,
      c.first-from.ensures,
      c.first_past.ensures,
      c.last-longest.ensures,
      c.first-shortest.ensures,
      add-one,
    ) (rw (drop-cons ds c.loop-interval.interval-index 0 c.loop-interval-test.true) at c.loop-interval.invariant)

pub returns : goal.returns
unfolding alike_from
returns c =
    let ds = c.args.intervals.now in
    let k = c.loop-interval.interval-index in
    rw (drop_of_length-le ds {i = k} c.loop-interval-test.false) at c.loop-interval.invariant

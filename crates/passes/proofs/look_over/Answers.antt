-- Why `intervals::look_over` gives `passed`: block after block it stands where the pass does, and so at the end.
-- Rests on no axiom.
use Rattle.std.proofs.Common.{arith}
use Rattle.passes.specs.machine.Look.{Looking}
use Rattle.passes.proofs.LookLaws.{looks_first, looking_fits, looks_last}
use Rattle.passes.proofs.look_over.Goals as goal

pub look_on-at-requires : goal.look_on-at-requires
look_on-at-requires c =
    let stands : Looking c.args.p c.args.intervals.now c.loop-at.at =
    c.loop-at.invariant c.args.p
    (rw (c.start.ensures, c.new.ensures) (looks_first c.args.p c.args.intervals.now)) in
    let few = c.requires in
    let (held, words) = looking_fits _ _ _ stands (omega (arith, few, c.ranges.most.fits)) in
    record {
      used_in_bounds = (c.loop-at-test.true, few);
      words_lt_most = (omega (arith, words, c.loop-at-test.true, few), held);
    }

pub returns : goal.returns
returns c =
    let stands : Looking c.args.p c.args.intervals.now c.loop-at.at =
    c.loop-at.invariant c.args.p
    (rw (c.start.ensures, c.new.ensures) (looks_first c.args.p c.args.intervals.now)) in
    looks_last _ _ _ stands _ c.loop-at-test.false c.requires c.ranges.most.fits

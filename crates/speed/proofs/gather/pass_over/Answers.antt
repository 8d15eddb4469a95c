-- Why `gather::pass_over` reads the corrected numbers: how the pass stands is kept from block to block. Rests on no axiom.
use Prim.Native.Nat.{◌<◌}
use mathlib.Core.Path.{refl, sym, ap, ◌∙◌}
use native.Mathlib.Omega.{arith}
use lib.ListN.{length}
use Rattle.lists.proofs.StoreLaws.{stored_length}
use Rattle.symbols.specs.machine.Step.{fresh_reading}
use Rattle.passes.specs.machine.Blocks.{at_first, words_of}
use Rattle.passes.proofs.BlockLaws.{rest_wants, rest_stops, comes_nearer}
use Rattle.pace.specs.machine.Cut.{slowed}
use Rattle.pace.proofs.CutLaws.{slowed_count}
use Rattle.speed.specs.machine.Along.{at_onset}
use Rattle.speed.proofs.AlongLaws.{onset_stands, reaches, stands_next, stored_next}
use Rattle.speed.proofs.AlongLaws.{stands_near, edges_ascend, stands_ends, stored_ends}
use Rattle.speed.proofs.gather.pass_over.Goals as goal

-- what a turn has found: the pass goes on
wants
    : (c : goal.After-advance-arg-1)
    → let args = c.args in
    (c.loop-pace.along.at.pass.used < length args.intervals.now)
    × (c.loop-pace.along.at.pass.reading.words < args.n)
wants c =
    let args = c.args in
    rest_wants args.n args.intervals.now c.loop-pace.along.at (sym c.goes_on.ensures ∙ c.loop-pace-test.true)

-- what a turn has found: the pass goes on
wants_2
    : (c : goal.After-slice_known-in-loop-pace-1)
    → let args = c.args in
    (c.loop-pace.along.at.pass.used < length args.intervals.now)
    × (c.loop-pace.along.at.pass.reading.words < args.n)
wants_2 c =
    let args = c.args in
    rest_wants args.n args.intervals.now c.loop-pace.along.at (sym c.goes_on.ensures ∙ c.loop-pace-test.true)

pub loop-pace-init : goal.loop-pace-init
unfolding at_onset at_first fresh_reading
loop-pace-init c = rw c.start-along.ensures (onset_stands _ _ _, refl, refl)

pub advance-along-requires : goal.advance-along-requires
advance-along-requires c =
    let stands = c.loop-pace.invariant.0 in
    let (left, wanted) = wants c in
    let begins = c.start-along.ensures in
    let accepts = c.requires.p_value in
    let range = c.requires.le_n in
    let able = c.requires.able in
    let count = slowed_count c.args.pace c.args.intervals.now in
    record {
      able = able;
      words_lt_n = (wanted, stands.fair.room);
      on_even = record {
        within = left;
        even = stands.pairs wanted (rw count left);
        near = stands_near c.args.p begins stands accepts range;
      };
      ascending = edges_ascend c.args.p begins stands accepts wanted;
    }

pub loop-pace-smaller : goal.loop-pace-smaller
loop-pace-smaller c =
    let (left, wanted) = wants_2 c in
    let count = slowed_count c.args.pace c.args.intervals.now in
    let stands = c.loop-pace.invariant.0 in
    let small = c.ranges.n.fits in
    rw count at
    (comes_nearer _ _ _ 64 _ (reaches small stands wanted (rw count left) refl c.advance-along.ensures.takes)
    small stands.fair (omega arith) wanted (rw count left))

pub loop-pace-preserved : goal.loop-pace-preserved
unfolding words_of
loop-pace-preserved c =
    let (left, wanted) = wants_2 c in
    let count = slowed_count c.args.pace c.args.intervals.now in
    let (stands, same, stored) = c.loop-pace.invariant in
    let takes = c.advance-along.ensures.takes in
    let output = c.advance-along.ensures.output in
    let small = c.ranges.n.fits in (
      stands_next small stands wanted (rw count left) refl takes,
      ap length output ∙ stored_length _ _ _ ∙ same,
      stored_next small stands wanted (rw count left) refl takes _ _ output ∙ stored,
    )

pub returns : goal.returns
returns c =
    let (stands, same, stored) = c.loop-pace.invariant in
    let begins = c.start-along.ensures in
    let count = slowed_count c.args.pace c.args.intervals.now in
    let stops = rest_stops c.args.n (slowed c.args.pace c.args.intervals.now)
    c.loop-pace.along.at (rw count (sym c.goes_on.ensures ∙ c.loop-pace-test.false)) in
    record {
      end = stands_ends c.args.p begins stands stops;
      output = stored_ends c.args.p begins stands stops _ _ stored;
    }

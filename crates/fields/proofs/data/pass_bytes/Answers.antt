-- Why `data::pass_bytes` stores the bytes of the items from a number on: what is left to read and to store stays the same
-- from part to part. Rests on no axiom.
use Prim.Native.Nat.{◌-◌, ◌<◌}
use mathlib.Core.Path.{◌≡◌, refl, sym, ap, ◌∙◌}
use native.Mathlib.Omega.{arith}
use lib.ListN.{length}
use lib.Seq.{length-take-le, drop-nil}
use Rattle.lists.proofs.StoreLaws.{stored_none, stored_length}
use Rattle.symbols.specs.machine.Step.{fresh_reading}
use Rattle.passes.specs.machine.Blocks.{at_first, rest_from}
use Rattle.passes.proofs.BlockLaws.{fair_at_first, all_at_first, rest_wants, rest_stops, fair_after, comes_nearer}
use Rattle.fields.proofs.PartLaws.{Part, read_part, still_long}
use Rattle.fields.proofs.BytesLaws.{bytes_go_on}
use Rattle.fields.proofs.data.pass_bytes.Invariants.{left}
use Rattle.fields.proofs.data.pass_bytes.Goals as goal

-- what a turn has found: the pass goes on
wants
    : (c : goal.After-words-in-loop-words-2-1)
    → (c.loop-words.at.pass.used < length c.args.intervals.now)
    × (c.loop-words.at.pass.reading.words < c.args.n)
wants c =
    rest_wants c.args.n c.args.intervals.now c.loop-words.at
    (sym c.goes_on.ensures ∙ c.loop-words-test.true)

-- what a turn has found: the pass goes on
wants_2
    : (c : goal.After-slice_known-in-loop-words-1)
    → (c.loop-words.at.pass.used < length c.args.intervals.now)
    × (c.loop-words.at.pass.reading.words < c.args.n)
wants_2 c =
    rest_wants c.args.n c.args.intervals.now c.loop-words.at
    (sym c.goes_on.ensures ∙ c.loop-words-test.true)

-- and what the part has left
part
    : (c : goal.After-struct_known-1-unread)
    → let args = c.args in
    Part 256 65 args.n args.intervals.now c.loop-words.at c.pass_on-at.result c.pass_on-at.new.out
part c =
    let reaches = c.pass_on-at.ensures.next in
    let stored = c.pass_on-at.ensures.output in
    let (fair, same, long, out) = c.loop-words.invariant in
    read_part _ _ reaches c.ranges.n.fits fair (omega arith) long stored

-- and what the part has left
part_2
    : (c : goal.After-struct_known-1)
    → let args = c.args in
    Part 256 65 args.n args.intervals.now c.loop-words.at c.pass_on-at.result c.pass_on-at.new.out
part_2 c =
    let reaches = c.pass_on-at.ensures.next in
    let stored = c.pass_on-at.ensures.output in
    let (fair, same, long, out) = c.loop-words.invariant in
    read_part _ _ reaches c.ranges.n.fits fair (omega arith) long stored

-- and what the part has left
part_3
    : (c : goal.After-words-in-loop-words-2-1)
    → let args = c.args in
    Part 256 65 args.n args.intervals.now c.loop-words.at c.pass_on-at.result c.pass_on-at.new.out
part_3 c =
    let reaches = c.pass_on-at.ensures.next in
    let stored = c.pass_on-at.ensures.output in
    let (fair, same, long, out) = c.loop-words.invariant in
    read_part _ _ reaches c.ranges.n.fits fair (omega arith) long stored

-- and what the part has left
part_4
    : (c : goal.After-slice_known-in-loop-words-1)
    → let args = c.args in
    Part 256 65 args.n args.intervals.now c.loop-words.at c.pass_on-at.result c.pass_on-at.new.out
part_4 c =
    let reaches = c.pass_on-at.ensures.next in
    let stored = c.pass_on-at.ensures.output in
    let (fair, same, long, out) = c.loop-words.invariant in
    read_part _ _ reaches c.ranges.n.fits fair (omega arith) long stored

pub loop-words-init : goal.loop-words-init
unfolding at_first fresh_reading
loop-words-init c =
    let skip = c.args.skip in
    let none : 0 - skip ≡ 0 = omega arith in
    let all : skip - 0 ≡ skip = omega arith in
    rw c.start-at.ensures (fair_at_first _ _, refl, refl, rw (none, all) refl)

pub slice_bounds-pass_on-end : goal.slice_bounds-pass_on-end
slice_bounds-pass_on-end c = sym c.loop-words.invariant.2

pub pass_on-at-requires : goal.pass_on-at-requires
pass_on-at-requires c = let fair = c.loop-words.invariant.0 in (fair.within, fair.room)

pub overflow_sub-count : goal.overflow_sub-count
overflow_sub-count c = omega (arith, (part c).more)

pub slice_bounds-words-end : goal.slice_bounds-words-end
slice_bounds-words-end c = let p = part_2 c in omega (arith, p.more, p.few, p.long)

pub slice_bounds-put_part-end : goal.slice_bounds-put_part-end
slice_bounds-put_part-end c =
    let p = part_3 c in
    sym (length-take-le _ _ (omega (arith, p.more, p.few, p.long)))

pub overflow_cast-done : goal.overflow_cast-done
overflow_cast-done c =
    let wanted = (wants c).1 in
    record { fits = omega (arith, (part_3 c).small) }

pub loop-words-smaller : goal.loop-words-smaller
loop-words-smaller c =
    let (left, wanted) = wants_2 c in
    let p = part_4 c in
    comes_nearer _ _ _ 256 _ p.reaches p.small p.fair (omega arith) wanted left

pub loop-words-preserved : goal.loop-words-preserved
loop-words-preserved c =
    let p = part_4 c in
    let (fair, same, long, stored) = c.loop-words.invariant in (
      fair_after _ _ _ 256 _ p.reaches p.small fair,
      ap length c.put_part.ensures ∙ stored_length _ _ _ ∙ same,
      still_long p c.put_part.new.words c.put_part.auto.words,
      bytes_go_on p _ _ _ (rw p.front at c.put_part.ensures) ∙ stored,
    )

pub returns : goal.returns
returns c =
    let (fair, same, long, stored) = c.loop-words.invariant in
    let words = c.loop-words.at.pass.reading.words in
    let stops = rest_stops c.args.n c.args.intervals.now c.loop-words.at
    (sym c.goes_on.ensures ∙ c.loop-words-test.false) in
    let all = ap (rest_from c.args.n c.args.intervals.now) c.start-at.ensures
    ∙ all_at_first _ _ _ in
    sym (stored_none _ (words - c.args.skip)) ∙ rw (stops, all, drop-nil) at stored

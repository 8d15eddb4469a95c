-- Why `gather::read_block` reads a block: its code words have room in the buffer, whose front then holds them. Rests on no
-- axiom.
use Prim.Native.Nat.{ℕ, ◌+◌, ◌-◌, ◌≤◌}
use mathlib.Core.Path.{◌≡◌, refl, sym}
use native.Mathlib.Omega.{arith}
use lib.ListN.{length, take, replicate}
use lib.Seq.{length-take-le}
use Rattle.passes.specs.machine.Blocks.{pass_on}
use Rattle.speed.proofs.BlockReadLaws.{words_more, words_are_few, front_is_words}
use Rattle.speed.proofs.gather.read_block.Goals as goal

-- as many code words as the pass counts more, and room for them
counted
    : (c : goal.After-struct_known-1)
    → let start = c.args.start in
    let words = (pass_on c.args.n start c.args.block.now).words in
    (c.pass_block-at.result.pass.reading.words ≡ start.pass.reading.words + length words) × (length words ≤ 17)
counted c =
    let wants = c.requires.words_lt_n in
    let place = c.requires.block_len_bound in
    let small = c.ranges.n.fits in (
      words_more _ c.args.start _ small wants.1 place.0 _ c.pass_block-at.ensures.pass,
      words_are_few _ c.args.start _ small wants.1 place.0 _ c.pass_block-at.ensures.pass,
    )

-- and the front of the buffer holds them
fronted
    : (c : goal.After-struct_known-1)
    → let start = c.args.start in
    let buffer = c.pass_block-at.new.out in
    let count = c.pass_block-at.result.pass.reading.words - start.pass.reading.words in
    (length buffer ≡ 17) × (take count buffer ≡ (pass_on c.args.n start c.args.block.now).words)
fronted c =
    let wants = c.requires.words_lt_n in
    let place = c.requires.block_len_bound in
    front_is_words _ c.args.start _ c.ranges.n.fits wants.1 place.0 _ c.pass_block-at.ensures.pass
    (replicate 17 0) _ refl c.pass_block-at.ensures.output

-- and the front of the buffer holds them
fronted_2
    : (c : goal.After-slice_known-2-1)
    → let start = c.args.start in
    let buffer = c.pass_block-at.new.out in
    let count = c.pass_block-at.result.pass.reading.words - start.pass.reading.words in
    (length buffer ≡ 17) × (take count buffer ≡ (pass_on c.args.n start c.args.block.now).words)
fronted_2 c =
    let wants = c.requires.words_lt_n in
    let place = c.requires.block_len_bound in
    front_is_words _ c.args.start _ c.ranges.n.fits wants.1 place.0 _ c.pass_block-at.ensures.pass
    (replicate 17 0) _ refl c.pass_block-at.ensures.output

pub slice_bounds-pass_block-end : goal.slice_bounds-pass_block-end
slice_bounds-pass_block-end c = sym (length-take-le _ _ c.requires.block_len_bound.0)

pub pass_block-at-requires : goal.pass_block-at-requires
pass_block-at-requires c =
    let block = c.args.block.now in
    let (few, place) = c.requires.block_len_bound in
    let room : length (take {A = ℕ} (length block) (replicate 64 0)) ≡ length block =
    length-take-le (length block) (replicate 64 0) few in
    record {
      words_lt_most = c.requires.words_lt_n;
      units_len = (room, omega (arith, room, few));
      intervals_bound = (omega (arith, place), omega (arith, few));
    }

pub overflow_sub-count : goal.overflow_sub-count
overflow_sub-count c = omega (arith, (counted c).0)

pub slice_bounds-words-end : goal.slice_bounds-words-end
slice_bounds-words-end c = omega (arith, (counted c).0, (counted c).1, (fronted c).0)

pub slice_bounds-sum_up-end : goal.slice_bounds-sum_up-end
slice_bounds-sum_up-end c =
    let wants = c.requires.words_lt_n in
    let room = c.requires.block_len_bound.0 in
    let passed = c.pass_block-at.ensures.pass in
    let small = c.ranges.n.fits in
    let more = words_more _ c.args.start _ small wants.1 room _ passed in
    let few = words_are_few _ c.args.start _ small wants.1 room _ passed in
    let front =
    front_is_words _ c.args.start _ small wants.1 room _ passed (replicate 17 0) _ refl c.pass_block-at.ensures.output in
    sym (length-take-le _ _ (omega (arith, more, few, front.0)))

pub returns : goal.returns
returns c =
    let front = (fronted_2 c).1 in
    record {
      pass = c.pass_block-at.ensures.pass;
      cursor = c.pass_block-at.ensures.cursor;
      check = rw front at c.sum_up-check.ensures.check;
      output = rw front at c.sum_up-check.ensures.output;
    }

-- Why `Along::advance` takes the next block of the corrected numbers: from an even place on they are corrected as the whole
-- list is. Rests on no axiom.
use Prim.Native.Nat.{ℕ, ◌+◌, ◌-◌, ◌%◌, ◌≤◌, min}
use mathlib.Core.Path.{◌≡◌, sym, ap, ◌∙◌}
use mathlib.Core.List.{List, ◌++◌}
use native.Mathlib.Omega.{arith}
use lib.ListN.{length, take, drop, replicate, length-take, length-drop, length-append}
use lib.Seq.{length-take-le, take_at}
use Rattle.passes.specs.machine.Blocks.{words_of}
use Rattle.pace.specs.machine.Cut.{cut_from, slowed}
use Rattle.pace.specs.declared.Pace.{Pace}
use Rattle.pace.proofs.CutLaws.{cut_count}
use Rattle.speed.proofs.CutBlockLaws.{block_is_cut}
use Rattle.speed.proofs.gather.Along.advance.Goals as goal

-- as many numbers as are lent have their places
lent : (ds : List ℕ) (from count : ℕ) → count ≡ min 64 (length ds - from) → length (take (from + count - from) (drop from ds))
    ≡ count
lent ds from count is =
    let same : from + count - from ≡ count = omega arith in
    omega (arith, is, same, length-take (from + count - from) (drop from ds), length-drop from ds)

-- the front of a buffer that was lent and filled
module _ (filled buffer : List ℕ) (count : ℕ) (e : length filled ≡ count) where
  room : count ≤ length (filled ++ drop count buffer)
  room = omega (arith, e, length-append filled (drop count buffer))

  front : take count (filled ++ drop count buffer) ≡ filled
  front = take_at filled (drop count buffer) count e

-- a block that was corrected, in the front of its buffer
module _
    (pace : Pace) (ds : List ℕ) (from count : ℕ) (out : List ℕ) (few : count ≡ min 64 (length ds - from))
    (cuts : out ≡ cut_from pace.nominal pace.even pace.odd (take (from + count - from) (drop from ds)))
  where
    corrected_count : length out ≡ count
    corrected_count = ap length cuts ∙ cut_count _ _ _ _ ∙ lent ds from count few

    -- it is the next of the corrected list
    corrected_block
        : (buffer : List ℕ)
        → from % 2 ≡ 0
        → take count (out ++ drop count buffer) ≡ take 64 (drop from (slowed pace ds))
    unfolding slowed
    corrected_block buffer even =
        front out buffer count corrected_count ∙ cuts ∙ block_is_cut _ _ _ ds from count even few

pub slice_bounds-correct-end-2 : goal.slice_bounds-correct-end-2
slice_bounds-correct-end-2 c = sym (length-take-le _ _ (omega (arith, c.min-count.ensures)))

pub correct-requires : goal.correct-requires
correct-requires c =
    let count = c.min-count.result in
    let few : count ≤ 64 = omega (arith, c.min-count.ensures) in
    let own : length (take {A = ℕ} count (replicate 64 0)) ≡ count = length-take-le count (replicate 64 0) few in
    record {
      able = c.requires.able;
      out_len = own ∙ sym (lent c.args.intervals.now c.args.self.at.pass.used count c.min-count.ensures);
    }

pub slice_bounds-block-end-2 : goal.slice_bounds-block-end-2
slice_bounds-block-end-2 c =
    let args = c.args in
    let few = c.min-count.ensures in
    room c.correct.new.out (replicate 64 0) _
    (corrected_count args.pace args.intervals.now args.self.at.pass.used _ _ few c.correct.ensures)

pub slice_bounds-next-end : goal.slice_bounds-next-end
slice_bounds-next-end c =
    let args = c.args in
    let few = c.min-count.ensures in
    sym (length-take-le _ _
    (room c.correct.new.out (replicate 64 0) _
    (corrected_count args.pace args.intervals.now args.self.at.pass.used _ _ few c.correct.ensures)))

pub next-requires : goal.next-requires
next-requires c =
    let args = c.args in
    let few = c.min-count.ensures in
    let count = c.min-count.result in
    let as_many = corrected_count args.pace args.intervals.now args.self.at.pass.used _ _ few c.correct.ensures in
    let long : length (take count (c.correct.new.out ++ drop count (replicate 64 0))) ≡ count =
    ap length (front c.correct.new.out (replicate 64 0) count as_many) ∙ as_many in
    record {
      words_lt_n = c.requires.words_lt_n;
      block_len_bound = (omega (arith, long, few), omega (arith, long, few, c.requires.on_even.near));
      ascending = c.requires.ascending;
    }

pub returns : goal.returns
unfolding words_of
returns c =
    let args = c.args in
    let few = c.min-count.ensures in
    let same =
    corrected_block args.pace args.intervals.now args.self.at.pass.used _ _ few c.correct.ensures (replicate 64 0)
    c.requires.on_even.even in
    record { takes = rw same at c.next.ensures.takes; output = rw same at c.next.ensures.output }

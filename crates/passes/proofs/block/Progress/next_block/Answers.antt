-- Why `Progress::next_block` reaches the end of its block: it is the next 128 intervals, or all that are left. Rests on
-- no axiom.
use Rattle.std.proofs.Common.{◌≡◌, ℕ, ◌+◌, ◌-◌, min, List, length, take, drop, ap, ◌∙◌, arith, length-drop, length-take}
use Rattle.passes.specs.machine.Blocks.{words_of}
use Rattle.passes.proofs.BlockLaws.{take_taken}
use Rattle.passes.proofs.block.Progress.next_block.Goals as goal

module _ (ds : List ℕ) (from n : ℕ) (count : n ≡ min 128 (length ds - from)) where
  abbrev part : List ℕ
  part = take (from + n - from) (drop from ds)

  block_is : part ≡ take 128 (drop from ds)
  block_is =
      let same : from + n - from ≡ length (take 128 (drop from ds)) =
      omega (arith, length-take 128 (drop from ds), length-drop from ds) in
      ap (λ (k : ℕ). take k (drop from ds)) same ∙ take_taken 128 (drop from ds)

  block_count : length part ≡ n
  block_count = ap length block_is ∙ omega (arith, length-take 128 (drop from ds), length-drop from ds)

pub returns : goal.returns
unfolding words_of
returns c =
    let args = c.args in
    let same = block_is args.intervals.now args.self.pass.used _ c.min-n.ensures in
    record {
      next = record {
        pass = rw same at c.pass_block.ensures.pass;
        cursor = λ _. rw same at c.pass_block.ensures.cursor;
      };
      output = rw same at c.pass_block.ensures.output;
    }

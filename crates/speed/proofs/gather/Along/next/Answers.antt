-- Why `Along::next` takes a block more: it is read, and of its used intervals are told the first that is no cell and the
-- extremes. Rests on no axiom.
use Prim.Native.Nat.{◌-◌}
use mathlib.Core.Path.{sym}
use native.Mathlib.Omega.{arith}
use lib.ListN.{length-take}
use lib.Seq.{length-take-le}
use Rattle.speed.proofs.BlockReadLaws.{used_more}
use Rattle.speed.proofs.gather.Along.next.Goals as goal

pub overflow_sub-used : goal.overflow_sub-used
overflow_sub-used c =
    (used_more _ c.args.self.at _ c.ranges.n.fits c.requires.words_lt_n.1 c.requires.block_len_bound.0 _
    c.read_block-read.ensures.pass).0

pub slice_bounds-edges_after-end : goal.slice_bounds-edges_after-end
slice_bounds-edges_after-end c =
    let used =
    used_more _ c.args.self.at _ c.ranges.n.fits c.requires.words_lt_n.1 c.requires.block_len_bound.0 _
    c.read_block-read.ensures.pass in
    sym (length-take-le _ _ (omega (arith, used.0, used.1)))

pub edges_after-requires : goal.edges_after-requires
edges_after-requires c =
    let used =
    used_more _ c.args.self.at _ c.ranges.n.fits c.requires.words_lt_n.1 c.requires.block_len_bound.0 _
    c.read_block-read.ensures.pass in
    let count = c.read_block-read.result.at.pass.used - c.args.self.at.pass.used in
    record {
      ascending = c.requires.ascending.0;
      intervals_bound = omega (arith, c.requires.block_len_bound.1, length-take count c.args.block.now, used.0, used.1);
    }

pub slice_bounds-with_all-end : goal.slice_bounds-with_all-end
slice_bounds-with_all-end c =
    let used =
    used_more _ c.args.self.at _ c.ranges.n.fits c.requires.words_lt_n.1 c.requires.block_len_bound.0 _
    c.read_block-read.ensures.pass in
    sym (length-take-le _ _ (omega (arith, used.0, used.1)))

pub with_all-requires : goal.with_all-requires
with_all-requires c = c.requires.ascending.1

pub returns : goal.returns
returns c =
    let pass = c.read_block-read.ensures.pass in
    let cursor = c.read_block-read.ensures.cursor in
    let check = c.read_block-read.ensures.check in
    let output = c.read_block-read.ensures.output in
    record {
      takes = record {
        pass = pass;
        cursor = cursor;
        check = check;
        edges = c.edges_after.ensures;
        seen = c.with_all.ensures;
      };
      output = output;
    }

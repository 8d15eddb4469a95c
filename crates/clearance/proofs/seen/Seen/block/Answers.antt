-- `Seen::block` has room for the masks of its intervals. Rests on no axiom.
use Rattle.std.proofs.Common.{ℕ, length, replicate, sym, length-take-le}
use Rattle.clearance.proofs.seen.Seen.block.Goals as goal

pub slice_bounds-masked-end : goal.slice_bounds-masked-end
slice_bounds-masked-end c = sym (length-take-le _ _ c.requires.in_bounds.1)

pub masked-requires : goal.masked-requires
masked-requires c =
    let n = length c.args.intervals.now in
    record {
      ascending = c.requires.ascending;
      in_bounds = (c.requires.in_bounds.0, length-take-le {A = ℕ} n (replicate 129 0) c.requires.in_bounds.1);
    }

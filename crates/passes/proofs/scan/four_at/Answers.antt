-- Why `scan::four_at` packs four cells: the second half stands as many bytes higher. Rests on no axiom.
use Rattle.std.proofs.Common.{arith}
use Rattle.passes.proofs.ScanLaws.{packed_more}
use Rattle.passes.proofs.scan.four_at.Goals as goal

pub returns : goal.returns
returns c =
    let (low, small_low) = c.two_at.ensures in
    let (high, small_high) = c.two_at-2.ensures in
    let both = packed_more 2 c.args.units.now c.args.k (omega (arith, c.requires)) in
    (omega (arith, low, high, both), omega (arith, small_low, small_high))

-- Why `scan::eight_at` packs eight cells: the second half stands as many bytes higher. Rests on no axiom.
use Rattle.std.proofs.Common.{arith}
use Rattle.passes.proofs.ScanLaws.{packed_more}
use Rattle.passes.proofs.scan.eight_at.Goals as goal

pub returns : goal.returns
returns c =
    let (low, small_low) = c.four_at.ensures in
    let (high, small_high) = c.four_at-2.ensures in
    let both = packed_more 4 c.args.units.now c.args.k (omega (arith, c.requires)) in
    omega (arith, low, high, both)

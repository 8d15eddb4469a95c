-- Why `scan::two_at` packs two cells: the second stands one byte higher. Rests on no axiom.
use Rattle.std.proofs.Common.{◌+◌, arith}
use Rattle.passes.proofs.ScanLaws.{packed_one, packed_more}
use Rattle.passes.proofs.scan.two_at.Goals as goal

pub returns : goal.returns
returns c =
    let us = c.args.units.now in
    let k = c.args.k in
    let inside = c.requires in
    let (a, small_a) = c.wide.ensures in
    let (b, small_b) = c.wide-2.ensures in
    let one = packed_one us k (omega (arith, inside)) in
    let next = packed_one us (k + 1) (omega (arith, inside)) in
    let both = packed_more 1 us k (omega (arith, inside)) in
    (omega (arith, a, b, one, next, both), omega (arith, small_a, small_b))

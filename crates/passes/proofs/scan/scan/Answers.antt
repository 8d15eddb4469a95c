-- Why `scan::scan` counts all and finds a gap: what is left of the sum and of the gaps stays the same from eight to
-- eight. Rests on no axiom.
use Rattle.std.proofs.Common.{arith}
use Rattle.passes.proofs.ScanLaws.{eight_cells, scans_on, scans_end}
use Rattle.passes.proofs.scan.scan.Goals as goal

pub loop-i-preserved : goal.loop-i-preserved
loop-i-preserved c =
    let (size, cells, low) = c.requires in
    let inside = c.loop-i-test.true in
    let so_far = c.loop-i.invariant in
    let (eight, long) = eight_cells _ cells size c.loop-i.i inside in
    let (sum, gap) =
    c.scan_eight-at.ensures _ eight long c.eight_at.ensures (omega (arith, so_far.small, inside)) in
    scans_on _ _ cells size so_far inside _ _ sum gap

pub returns : goal.returns
returns c =
    let both = scans_end _ _ c.requires.0 c.loop-i.invariant c.loop-i-test.false in
    record {
      sum = both.0;
      gap = both.1;
    }

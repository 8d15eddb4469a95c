-- Why `sets::index::count_sectors` answers `count_rule`: what was counted and what is left to count stay one answer
-- from turn to turn. Rests on no axiom.
use Rattle.std.proofs.Common.{rules}
use Prim.Native.Nat.{◌≤◌}
use native.Mathlib.Nat.{add-zero}
use native.Mathlib.Omega.{arith}
use lib.ListN.{length, drop_of_length-le}
use Rattle.sets.proofs.SetLaws.{set_of_none}
use Rattle.sets.proofs.PlaceLaws.{misfit_ends_the_count, Whole, count_with_first, sector_is_whole}
use Rattle.sets.proofs.index.count_sectors.Goals as goal

whole
    : (c : goal.In_ok-end)
    → Whole c.args.set.now c.loop-start.start c.in_ok-end.end
whole c =
    sector_is_whole _ _ c.loop-start-test.true c.in_ok-end.end
    (c.in_ok-end.ensures)

pub returns-in_err-end : goal.returns-in_err-end
returns-in_err-end c = search (rules, misfit_ends_the_count)

pub loop-start-smaller : goal.loop-start-smaller
loop-start-smaller c = let w = whole c in omega (arith, w.here)

pub loop-start-preserved : goal.loop-start-preserved
loop-start-preserved c =
    let w = whole c in
    let inv = c.loop-start.invariant in
    (w.ends, omega (arith, w.here), rw (w.then, count_with_first) at inv.2)

pub returns : goal.returns
returns c =
    let done : length c.args.set.now ≤ c.loop-start.start = omega arith in
    rw (← add-zero c.loop-start.count) (rw (drop_of_length-le _ done, set_of_none) at c.loop-start.invariant.2)

-- Why `list::gather` answers `report_from`: each turn classes an interval and renews the row of its class, which is what
-- the report of one interval more is. Rests on no axiom.
use Prim.Native.Nat.{ℕ, ◌≤◌}
use native.Mathlib.Omega.{arith}
use lib.ListN.{get_or}
use Rattle.report.proofs.GatherTurn.{nothing_gathered, gathered_by_step, gathered_all}
use Rattle.report.proofs.GatherTurn.{renewed_row_fits}
use Rattle.report.proofs.list.gather.Goals as goal

pub loop-interval-init : goal.loop-interval-init
loop-interval-init c = nothing_gathered _ _

pub renew-next-requires : goal.renew-next-requires
renew-next-requires c =
    let small : (i : ℕ) → get_or c.args.intervals.now i 0 ≤ 65535 =
    λ i. let known = c.type_inv.intervals i in omega arith in
    renewed_row_fits c.loop-interval.invariant c.loop-interval-test.true c.requires small
    c.step-classed.ensures

pub loop-interval-preserved : goal.loop-interval-preserved
loop-interval-preserved c =
    gathered_by_step c.loop-interval.invariant c.loop-interval-test.true c.step-classed.ensures
    c.renew-next.ensures

pub returns : goal.returns
returns c = gathered_all c.loop-interval.invariant c.loop-interval-test.false

-- Why `merge::ascending::merged_size` answers the number of the merged set's bytes: what was counted and what is left
-- stay one sum from turn to turn, and outside of the span there is none. Rests on no axiom.
use Prim.Native.Nat.{◌≤◌, ◌<◌}
use mathlib.Core.Path.{ap}
use native.Mathlib.Omega.{arith}
use lib.ListN.{length}
use Rattle.merge.proofs.OutputLaws.{taken_is_short}
use Rattle.merge.proofs.AscendingLaws.{entries_here, size_here}
use Rattle.merge.proofs.BothSpanLaws.{bytes_before, bytes_after}
use Rattle.merge.proofs.ascending.merged_size.Goals as goal

short : (c : goal.After-taken_size-size) → c.taken_size-size.result ≤ 1027
short c = rw c.taken_size-size.ensures (taken_is_short _ _ _ _)

pub loop-n-init : goal.loop-n-init
loop-n-init c =
    let pre = c.requires in
    (pre.0.one_spans.low_ends, omega arith, omega (arith, ap length (bytes_before _ _ _ _ _ pre.0)))

pub taken_size-size-requires : goal.taken_size-size-requires
taken_size-size-requires c =
    let pre = c.requires in
    let inside : c.loop-n.n < 256 = omega (arith, pre.0.one_spans.high_ends) in
    entries_here _ _ _ _ pre.0.one pre.0.other _ inside pre.1

pub overflow_add-size : goal.overflow_add-size
overflow_add-size c = omega (arith, short c)

pub loop-n-preserved : goal.loop-n-preserved
loop-n-preserved c =
    let pre = c.requires in
    let inside : c.loop-n.n < 256 = omega (arith, pre.0.one_spans.high_ends) in
    let here = size_here _ _ _ _ pre.0.one pre.0.other _ inside in (
      omega arith,
      omega (arith, short c),
      omega (arith, c.taken_size-size.ensures, here, c.loop-n.invariant.2),
    )

pub returns : goal.returns
returns c =
    let pre = c.requires in
    let none = bytes_after _ _ _ _ _ pre.0 _ c.loop-n-test.false c.loop-n.invariant.0 in
    omega (arith, rw none at c.loop-n.invariant.2)

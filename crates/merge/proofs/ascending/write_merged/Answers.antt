-- Why `merge::ascending::write_merged` stores the merged set's bytes: what was stored and what is left to store stay
-- one run of stores from turn to turn, and outside of the span there is none. Rests on no axiom.
use Prim.Native.Nat.{◌<◌}
use mathlib.Core.Path.{refl, ◌∙◌}
use native.Mathlib.Omega.{arith}
use Rattle.lists.proofs.StoreLaws.{stored_none, stored_next}
use Rattle.merge.proofs.AscendingLaws.{bytes_here, entries_here, size_here}
use Rattle.merge.proofs.BothSpanLaws.{bytes_before, bytes_after}
use Rattle.merge.proofs.ascending.write_merged.Goals as goal

pub loop-n-init : goal.loop-n-init
loop-n-init c =
    let pre = c.requires in
    let all = bytes_before _ _ _ _ _ pre.0 in
    (pre.0.one_spans.low_ends, refl, rw (← all) (omega (arith, pre.2)), rw (← all))

pub put_taken-start-requires : goal.put_taken-start-requires
put_taken-start-requires c =
    let inv = c.loop-n.invariant in
    let pre = c.requires in
    let inside : c.loop-n.n < 256 = omega (arith, pre.0.one_spans.high_ends) in
    let here = entries_here _ _ _ _ pre.0.one pre.0.other _ inside pre.1 in
    let size = size_here _ _ _ _ pre.0.one pre.0.other _ inside in
    (here.0, here.1, here.2, omega (arith, size, inv.1, inv.2))

pub loop-n-preserved : goal.loop-n-preserved
loop-n-preserved c =
    let inv = c.loop-n.invariant in
    let pre = c.requires in
    let inside : c.loop-n.n < 256 = omega (arith, pre.0.one_spans.high_ends) in
    let size = size_here _ _ _ _ pre.0.one pre.0.other _ inside in
    let bytes = bytes_here _ _ _ _ pre.0.one pre.0.other _ inside in (
      omega arith,
      c.put_taken-start.auto.out ∙ inv.1,
      omega (arith, c.put_taken-start.ensures.next, size, inv.2),
      stored_next _ _ _ _ _ _ c.put_taken-start.ensures.output c.put_taken-start.ensures.next ∙ rw bytes at inv.3,
    )

pub returns : goal.returns
returns c =
    let pre = c.requires in
    let none = bytes_after _ _ _ _ _ pre.0 _ c.loop-n-test.false c.loop-n.invariant.0 in
    rw (none, stored_none) at c.loop-n.invariant.3

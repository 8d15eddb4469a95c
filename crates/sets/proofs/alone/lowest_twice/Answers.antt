-- Why `sets::alone::lowest_twice` answers the lowest number that is marked: it tries those of the span in ascending
-- order, and outside of it none is marked. Rests on no axiom.
use Prim.Native.Nat.{◌<◌}
use native.Mathlib.Omega.{arith}
use borrow.Author.Tests.{eq-eqb, ne_eqb}
use Rattle.lists.specs.Place.{lowest}
use Rattle.sets.proofs.NumberLaws.{numbers_from}
use Rattle.sets.proofs.SpanLaws.{lowest_before, lowest_after}
use Rattle.sets.proofs.alone.lowest_twice.Goals as goal

pub loop-n-init : goal.loop-n-init
loop-n-init c = (c.requires.low_ends, lowest_before _ _ _ c.requires c.requires _ (λ n h e d. rw e))

pub returns-then-index-n : goal.returns-then-index-n
unfolding lowest
returns-then-index-n c =
    let inside : c.loop-n.n < 256 = omega (arith, c.requires.high_ends) in
    record {
      lowest = omega (arith, rw (numbers_from _ inside, eq-eqb _ 65535 c.if-index-n.true) at c.loop-n.invariant.1);
      number = inside;
    }

pub loop-n-preserved : goal.loop-n-preserved
unfolding lowest
loop-n-preserved c =
    let inside : c.loop-n.n < 256 = omega (arith, c.requires.high_ends) in
    (omega arith, omega (arith, rw (numbers_from _ inside, ne_eqb _ 65535 c.if-index-n.false) at c.loop-n.invariant.1))

pub returns : goal.returns
returns c =
    let pre = c.requires in
    let test = c.loop-n-test.false in
    record {
      lowest = lowest_after _ _ _ pre pre _ (λ n h e d. rw e) _ test c.loop-n.invariant.0 c.loop-n.invariant.1;
      number = tt;
    }

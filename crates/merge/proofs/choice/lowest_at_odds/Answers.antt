-- Why `merge::choice::lowest_at_odds` answers the lowest number at which the sets are at odds: it tries those of the
-- span in ascending order, and outside of it there is none. Rests on no axiom.
use Prim.Native.Nat.{◌<◌}
use mathlib.Core.Path.{◌∙◌}
use native.Mathlib.Omega.{arith}
use Rattle.lists.specs.Place.{lowest}
use Rattle.sets.proofs.NumberLaws.{numbers_from}
use Rattle.sets.proofs.SpanLaws.{lowest_before, lowest_after}
use Rattle.merge.proofs.ChoiceLaws.{entries_at_odds}
use Rattle.merge.proofs.BothSpanLaws.{nothing_at_odds}
use Rattle.merge.proofs.choice.lowest_at_odds.Goals as goal

pub loop-n-init : goal.loop-n-init
loop-n-init c =
    let pre = c.requires in (
      pre.one_spans.low_ends,
      lowest_before _ _ _ pre.one_spans pre.other_spans _ (nothing_at_odds _ _ _ _ _ pre),
    )

pub returns-then-at_odds : goal.returns-then-at_odds
unfolding lowest
returns-then-at_odds c =
    let pre = c.requires in
    let inside : c.loop-n.n < 256 = omega (arith, pre.one_spans.high_ends) in
    let here = c.at_odds.ensures ∙ entries_at_odds _ _ _ _ pre.one pre.other _ inside in
    record {
      lowest = omega (arith, rw (numbers_from _ inside, ← here, c.if-at_odds.true) at c.loop-n.invariant.1);
      number = inside;
    }

pub loop-n-preserved : goal.loop-n-preserved
unfolding lowest
loop-n-preserved c =
    let pre = c.requires in
    let inside : c.loop-n.n < 256 = omega (arith, pre.one_spans.high_ends) in
    let here = c.at_odds.ensures ∙ entries_at_odds _ _ _ _ pre.one pre.other _ inside in
    (omega arith, omega (arith, rw (numbers_from _ inside, ← here, c.if-at_odds.false) at c.loop-n.invariant.1))

pub returns : goal.returns
returns c =
    let pre = c.requires in
    record {
      lowest =
          lowest_after _ _ _ pre.one_spans pre.other_spans _ (nothing_at_odds _ _ _ _ _ pre) _ c.loop-n-test.false
          c.loop-n.invariant.0 c.loop-n.invariant.1;
      number = tt;
    }

-- Why equal pairs keep document 01's margin: their classes are the nine numbers' after either kind, and the margin is the
-- largest number that keeps those. And why unequal ones can have a larger: the two rooms at an edge add up to what is
-- between the lengths, and after each kind less is between them. Rests on no axiom.
use Prim.Native.Nat.{ℕ, ◌-◌, ◌≤◌}
use mathlib.Core.Path.{◌≡◌, refl, sym, ap, ◌∙◌}
use native.Mathlib.Omega.{arith}
use lib.Dec.{lit<}
use Rattle.lists.specs.Place.{anywhere, lowest}
use Rattle.lists.specs.Span.{least}
use Rattle.lists.proofs.SpanLaws.{least_is_no_more}
use Rattle.refusal.specs.Answer.{Answer}
use Rattle.timing.specs.Profile.{unset, swing, advance, delay, is_true_short, is_true_long, is_true, profile_rule}
use Rattle.timing.specs.EqualPairs.{paired, nine_rule, renumbered}
use Rattle.timing.proofs.EqualPairs.{equal_pairs}
use Rattle.lengths.specs.Margin.{rooms_of, margin_of, margin_rule}
use Rattle.lengths.specs.Claims.{EqualPairsKeepTheMargin, PairsWidenTheMargin, drive}
use Rattle.lengths.proofs.PapersMargin.{margin_is_the_papers}

accepted_stays : (a : Answer) → a.number ≡ 0 → (renumbered a).number ≡ 0
accepted_stays a e = rw e refl

pub equal_pairs_keep_the_margin : EqualPairsKeepTheMargin
equal_pairs_keep_the_margin n accepts =
    let same = equal_pairs.class n in
    let margin =
    margin_is_the_papers (paired n)
    (ap (λ (a : Answer). a.number) (equal_pairs.verdict n) ∙ accepted_stays (nine_rule n) accepts) in
    record {
      keeps = λ items listed k h d above below.
          sym (same _ d) ∙ margin.keeps items listed k h d above below ∙ same _ _;
      largest = λ m keeps.
          margin.largest m (λ items listed k h d above below.
          same _ d ∙ keeps items listed k h d above below ∙ sym (same _ _));
    }

-- the room below B34 after a cell of class 2, and above it after any other
at_b34 : (m b34 : ℕ) → m ≤ b34 - 1 - 95 → m ≤ 116 - b34 → m ≤ 10
at_b34 m b34 below above = omega arith

pub pairs_widen_the_margin : PairsWidenTheMargin
unfolding anywhere lowest unset swing advance delay is_true_short is_true_long is_true profile_rule
    rooms_of least margin_of margin_rule
pairs_widen_the_margin =
    record {
      unequal = refl;
      equal = refl;
      equal_at_most = λ b23 b34 accepts.
          let rooms = least_is_no_more (rooms_of (drive b23 b23 b34 b34)) in
          at_b34 _ b34 (rooms 5 (lit< tt)) (rooms 8 (lit< tt));
    }

-- What pairs are worth. With equal pairs B34 stands above the longest length of 3 units after a cell of class 2 and not
-- above the shortest of 4 units after any other, so that D takes the place of l. Rests on no axiom.
use Prim.Native.Nat.{ℕ, ◌+◌, ◌-◌, ◌*◌, ◌/◌, ◌≤◌, ◌<◌, min}
use mathlib.Core.Path.{◌≡◌, refl, ap, subst}
use native.Mathlib.Omega.{arith}
use Rattle.timing.specs.EqualPairs.{Nine, paired}
use Rattle.timing.specs.Profile.{swing, advance, delay, InRange, profile_rule}
use Rattle.timing.proofs.ProfileLaws.{Kept, kept, accepts_if_kept}
use Rattle.lengths.specs.Margin.{margin_of}
use Rattle.lengths.proofs.WindowLaws.{Spare}
use Rattle.lengths.proofs.MarginLaws.{margin_leaves_room, spare_is_within_the_margin}
use Rattle.best.specs.Best.{writing_of, InRangeOf, swing_of}
use Rattle.best.specs.Best.{best_margin}
use Rattle.best.specs.Claims.{Chosen}
use Rattle.best.specs.Equal.{equal_margin, equal_windows, WhatPairsAreWorth}
use Rattle.best.specs.declared.Writing.{Writing}
use Rattle.best.proofs.TrialLaws.{in_range_of}
use Rattle.best.proofs.MarginLaws.{Possible, possible, parts_of, lesser_fits, fits_lesser, small}
use Rattle.best.proofs.RuleLaws.{accepts}
use Rattle.best.proofs.RoomLaws.{middle_is_above, middle_is_below, bound_in_range, kept_if_spare}

-- ---- any accepted profile with equal pairs

module _ (n : Nine) (ok : (profile_rule (paired n)).number ≡ 0) where
  abbrev k : Kept (paired n)
  k = kept (paired n) ok

  its_swing_is_below_t0 : swing_of (writing_of (paired n)) < n.t0
  unfolding swing
  its_swing_is_below_t0 =
      let h = k.below_b34_short in let g = k.above_b34_long in omega (arith, h, g)

  its_margin_is_no_larger : margin_of (paired n) ≤ equal_margin (writing_of (paired n))
  unfolding equal_margin swing
  its_margin_is_no_larger =
      let s = margin_leaves_room k in
      let low = k.ranges.2.2.2.2.2.0 in
      let min = s.above_min in
      let below = s.below_b34_short in
      let above = s.above_b34_long in
      fits_lesser n.t1 _ n.t0 _ (margin_of (paired n)) (omega (arith, low, min)) (omega (arith, below, above))

-- ---- the best of them

module _ (w : Writing) (some : Possible w) (longer : swing_of w < w.t0.0) where
  fits : (swing_of w + equal_margin w < w.t1.0) × (swing_of w + 2 * equal_margin w < w.t0.0)
  unfolding equal_margin
  fits = lesser_fits w.t1.0 (swing_of w) w.t0.0 (swing_of w) some.below_t1 longer

  at_b23 : w.t1.0 + 2 * equal_margin w < w.t1.0 + w.t0.0
  at_b23 = let h = fits.1 in omega (arith, h)

  at_b34 : w.t1.0 + w.t0.0 + swing_of w + 2 * equal_margin w < w.t1.0 + 2 * w.t0.0
  at_b34 = let h = fits.1 in omega (arith, h)

  equal_leaves_room : Spare (paired (equal_windows w)) (equal_margin w)
  unfolding equal_windows swing advance delay
  equal_leaves_room =
      let parts = parts_of w some in
      let first = fits.0 in
      let above_2 = middle_is_above _ _ (equal_margin w) at_b23 in
      let below_3 = middle_is_below _ _ (equal_margin w) at_b23 in
      let above_3 = middle_is_above _ _ (equal_margin w) at_b34 in
      let below_4 = middle_is_below _ _ (equal_margin w) at_b34 in
      record {
        parts = parts;
        above_min = omega (arith, first);
        below_b23_short = above_2;
        above_b23_short = omega (arith, below_3);
        below_b23_long = omega (arith, above_2);
        above_b23_long = below_3;
        below_b34_short = above_3;
        above_b34_short = omega (arith, below_4);
        below_b34_long = omega (arith, parts, above_3);
        above_b34_long = below_4;
        below_rpt = omega arith;
      }

  module _ (within : InRangeOf w) where
    equal_in_range : InRange (paired (equal_windows w))
    unfolding equal_windows
    equal_in_range =
        let few = small w within in
        let t1 = few.t1 in
        let t0 = few.t0 in
        let first = fits.0 in
        let (t1_low, t1_high, (t0_low, t0_high, (early_low, early_high, (normal_low, normal_high, late)))) = within in
        let m = equal_margin w in
        let b23 =
        bound_in_range _ m _ _ (middle_is_above _ _ m at_b23) (middle_is_below _ _ m at_b23) (omega (arith, t1, t0)) in
        let b34 =
        bound_in_range _ m _ _ (middle_is_above _ _ m at_b34) (middle_is_below _ _ m at_b34) (omega (arith, t1, t0)) in (
          t1_low,
          t1_high,
          (
            t0_low,
            t0_high,
            (
              early_low,
              early_high,
              (
                normal_low,
                normal_high,
                (
                  late.0,
                  late.1,
                  (
                    omega (arith, first),
                    omega (arith, t1),
                    (
                      b23.0,
                      b23.1,
                      (
                        b23.0,
                        b23.1,
                        (
                          b34.0,
                          b34.1,
                          (
                            b34.0,
                            b34.1,
                            (omega arith, omega (arith, first, t1, t0), tt),
                          ),
                        ),
                      ),
                    ),
                  ),
                ),
              ),
            ),
          ),
        )

    equal_is_accepted : (profile_rule (paired (equal_windows w))).number ≡ 0
    unfolding equal_windows
    equal_is_accepted =
        accepts_if_kept (paired (equal_windows w))
        (kept_if_spare (paired (equal_windows w)) (equal_margin w) equal_in_range some.early_first some.late_last
        equal_leaves_room)

    equal_is_chosen : Chosen w (paired (equal_windows w))
    unfolding equal_windows
    equal_is_chosen = record { same_five = refl; accepted_profile = equal_is_accepted }

    both_ways : (a b : ℕ) → a ≤ b → b ≤ a → a ≡ b
    both_ways a b h g = omega arith

    equal_has_the_margin : margin_of (paired (equal_windows w)) ≡ equal_margin w
    equal_has_the_margin =
        both_ways _ _
        (subst (λ v. margin_of (paired (equal_windows w)) ≤ equal_margin v) equal_is_chosen.same_five
        (its_margin_is_no_larger (equal_windows w) equal_is_accepted))
        (spare_is_within_the_margin (equal_margin w) equal_leaves_room)

-- ---- beside the best with pairs

half_apart : (t0 d l x : ℕ) → d ≡ 2 * x + l → d < t0 → (t0 - l - 1) / 2 ≡ (t0 - d - 1) / 2 + x
half_apart t0 d l x parts h = omega arith

half_no_less : (t0 d l : ℕ) → l ≤ d → (t0 - d - 1) / 2 ≤ (t0 - l - 1) / 2
half_no_less t0 d l h = omega arith

lesser_no_less : (a b c : ℕ) → b ≤ c → min a b ≤ min a c
lesser_no_less a b c h = omega arith

pub what_pairs_are_worth : WhatPairsAreWorth
unfolding best_margin equal_margin
what_pairs_are_worth w e =
    let a = accepts w e in
    let some = possible w a.some_true in
    let within = in_range_of w a.none_unset in
    let parts = parts_of w some in
    record {
      after_the_delay = some.below_t0;
      only_unequal = λ short n c.
          let longer =
          subst (λ v. swing_of v < v.t0.0) c.same_five (its_swing_is_below_t0 n c.accepted_profile) in
          omega (arith, short, longer);
      equal_too = λ longer. equal_is_chosen w some longer within;
      margin_of_equal = λ longer. equal_has_the_margin w some longer within;
      equal_largest = λ n c.
          subst (λ v. margin_of (paired n) ≤ equal_margin v) c.same_five
          (its_margin_is_no_larger n c.accepted_profile);
      beside = λ longer. ap (min _) (half_apart _ _ _ _ (omega (arith, parts)) longer);
      never_less = lesser_no_less _ _ _ (half_no_less _ _ _ (omega (arith, parts)));
    }

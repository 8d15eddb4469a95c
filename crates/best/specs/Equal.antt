-- Beyond document 02: what pairs are worth. The best windows where both bounds of each pair are equal, as in document 01's
-- profile of nine numbers, beside the best with pairs. No lemmas here.
use Rattle.std.specs.Prelude.{ℕ, ◌+◌, ◌-◌, ◌*◌, ◌/◌, ◌≤◌, ◌<◌, min, ◌≡◌, [], ◌∷◌}
use Rattle.refusal.specs.Answer.{accepted, refused}
use Rattle.timing.specs.Numbers.{numbers_of}
use Rattle.timing.specs.EqualPairs.{Nine, paired}
use Rattle.lengths.specs.Margin.{margin_of}
use Rattle.best.specs.Best.{writing, swing_of, delay_of, middle, best_margin, best_profile, best_rule}
use Rattle.best.specs.Claims.{Chosen}
use Rattle.best.specs.declared.Writing.{Writing}

-- the lesser of T1 − D − 1 and (T0 − D − 1) / 2 rounded down: D stands where l does with pairs
unfoldable pub equal_margin : Writing → ℕ
equal_margin w = min (w.t1.0 - swing_of w - 1) ((w.t0.0 - swing_of w - 1) / 2)

-- the bounds in the middle, Min and Rpt as far out as that margin needs
unfoldable pub equal_windows : Writing → Nine
equal_windows w =
    let two = w.t1.0 in
    let three = w.t1.0 + w.t0.0 in
    let four = w.t1.0 + 2 * w.t0.0 in
    record {
      t1 = w.t1.0;
      t0 = w.t0.0;
      early = w.early.0;
      normal = w.normal.0;
      late = w.late.0;
      min = two - swing_of w - equal_margin w;
      b23 = middle two three;
      b34 = middle (three + swing_of w) four;
      rpt = four + swing_of w + equal_margin w + 1;
    }

-- where some windows are true
pub record Worth (w : Writing) : Type 0 where
  -- equal pairs are true exactly where D < T0; so only unequal ones are where l < T0 ≤ D
  pub after_the_delay : delay_of w < w.t0.0
  pub only_unequal : w.t0.0 ≤ swing_of w → (n : Nine) → Chosen w (paired n) → ⊥
  pub equal_too : swing_of w < w.t0.0 → Chosen w (paired (equal_windows w))
  -- the best margin with equal pairs
  pub margin_of_equal : swing_of w < w.t0.0 → margin_of (paired (equal_windows w)) ≡ equal_margin w
  pub equal_largest : (n : Nine) → Chosen w (paired n) → margin_of (paired n) ≤ equal_margin w
  -- beside the best with pairs: pairs widen the room at B34 by Normal − Early, and that at Min by nothing
  pub beside
      : swing_of w < w.t0.0
      → best_margin w
      ≡ min (w.t1.0 - swing_of w - 1) ((w.t0.0 - swing_of w - 1) / 2 + (w.normal.0 - w.early.0))
  pub never_less : equal_margin w ≤ best_margin w

abbrev pub WhatPairsAreWorth : Type 0
WhatPairsAreWorth = (w : Writing) → (best_rule w).number ≡ 0 → Worth w

-- ---- the worked drive

-- 12 with pairs and 10 with equal ones; and with a T0 of 5 to 8, which is above l and not above D, unequal pairs alone
pub record WorkedDrive : Type 0 where
  pub with_pairs : best_rule (writing 58 29 8 10 12) ≡ accepted 12
  pub profile
      : numbers_of (best_profile (writing 58 29 8 10 12))
      ≡ 58 ∷ 29 ∷ 8 ∷ 10 ∷ 12 ∷ 38 ∷ 75 ∷ 71 ∷ 108 ∷ 104 ∷ 137 ∷ []
  pub with_equal_pairs : equal_margin (writing 58 29 8 10 12) ≡ 10
  pub short : best_rule (writing 58 8 8 10 12) ≡ accepted 1
  pub short_has_no_equal_pairs : (n : Nine) → Chosen (writing 58 8 8 10 12) (paired n) → ⊥
  -- T0 is not above l, T1 not above D, a point is out of order, a number out of range
  pub t0_too_short : best_rule (writing 58 4 8 10 12) ≡ refused 2 0
  pub t1_too_short : best_rule (writing 8 29 8 10 12) ≡ refused 2 0
  pub late_before_normal : best_rule (writing 58 29 8 12 10) ≡ refused 2 0
  pub late_out_of_range : best_rule (writing 58 29 8 10 16) ≡ refused 1 5

-- The windows leave room for the largest margin at every edge: a bound in the middle has it on both sides where twice the
-- margin fits between the lengths below and above, and Min and Rpt are set by it. So the profile is accepted. Rests on no
-- axiom.
use Prim.Native.Nat.{ℕ, ◌+◌, ◌-◌, ◌*◌, ◌≤◌, ◌<◌}
use mathlib.Core.Path.{◌≡◌}
use native.Mathlib.Omega.{arith}
use Rattle.timing.specs.Profile.{swing, advance, delay, InRange, profile_rule}
use Rattle.timing.specs.declared.Profile.{Profile}
use Rattle.timing.proofs.ProfileLaws.{Kept, accepts_if_kept, early_part, late_part}
use Rattle.lengths.proofs.WindowLaws.{Spare}
use Rattle.best.specs.Best.{InRangeOf, swing_of, advance_of, delay_of, middle, best_margin, best_profile}
use Rattle.best.specs.declared.Writing.{Writing}
use Rattle.best.proofs.MarginLaws.{Possible, parts_of, margin_fits, small}

-- ---- a bound in the middle

-- what fits twice between the lengths on its two sides fits on each
module _ (below above m : ℕ) (h : below + 2 * m < above) where
  pub middle_is_above : below + m < middle below above
  middle_is_above = omega arith

  pub middle_is_below : middle below above + m ≤ above
  middle_is_below = omega arith

-- ---- any windows that leave room for some margin

-- those of a profile whose points are in order, and whose numbers are in range, are true
pub kept_if_spare
    : (p : Profile) (m : ℕ) → InRange p → p.early.0 ≤ p.normal.0 → p.normal.0 ≤ p.late.0 → Spare p m → Kept p
kept_if_spare p m within early late s =
    record {
      ranges = within;
      early_first = early;
      late_last = late;
      early_point = early_part p early;
      late_point = late_part p late;
      parts = s.parts;
      above_min = omega (arith, s.above_min);
      below_b23_short = omega (arith, s.below_b23_short);
      above_b23_short = omega (arith, s.above_b23_short);
      below_b23_long = omega (arith, s.below_b23_long);
      above_b23_long = omega (arith, s.above_b23_long);
      below_b34_short = omega (arith, s.below_b34_short);
      above_b34_short = omega (arith, s.above_b34_short);
      below_b34_long = omega (arith, s.below_b34_long);
      above_b34_long = omega (arith, s.above_b34_long);
      below_rpt = omega (arith, s.below_rpt);
    }

-- a bound between a length and one that is short enough is in range
pub bound_in_range : (b m low high : ℕ) → low + m < b → b + m ≤ high → high ≤ 4095 → (1 ≤ b) × (b ≤ 4095)
bound_in_range b m low high h g few = (omega (arith, h), omega (arith, g, few))

-- ---- over bare numbers: T1, T0, D and its parts, and a margin that fits

record Apart (t1 t0 d e l m : ℕ) : Type 0 where
  above_min : t1 - d - m + d + m ≤ t1
  b23_short : t1 + 2 * m < t1 + t0 + e
  b23_long : t1 - l + 2 * m < t1 + t0
  b34_short : t1 + t0 + d + 2 * m < t1 + 2 * t0 + e
  b34_long : t1 + t0 + l + 2 * m < t1 + 2 * t0
  back : (b : ℕ) → t1 - l + m < b → t1 + m < b + l
  least_min : 1 ≤ t1 - d - m

apart : (t1 t0 d e l m : ℕ) → d ≡ e + l → d + m < t1 → l + 2 * m < t0 → Apart t1 t0 d e l m
apart t1 t0 d e l m parts first second =
    record {
      above_min = omega (arith, first);
      b23_short = omega (arith, second);
      b23_long = omega (arith, second);
      b34_short = omega (arith, parts, second);
      b34_long = omega (arith, second);
      back = λ b h. omega (arith, parts, first, h);
      least_min = omega (arith, first);
    }

-- ---- the best windows

module _ (w : Writing) (k : Possible w) where
  abbrev m : ℕ
  m = best_margin w

  room : Apart w.t1.0 w.t0.0 (swing_of w) (advance_of w) (delay_of w) (best_margin w)
  room = let f = margin_fits w k in apart _ _ _ _ _ _ (parts_of w k) f.below_t1 f.below_t0

  pub best_leaves_room : Spare (best_profile w) (best_margin w)
  unfolding best_profile swing advance delay
  best_leaves_room =
      record {
        parts = parts_of w k;
        above_min = room.above_min;
        below_b23_short = middle_is_above _ _ m room.b23_short;
        above_b23_short = middle_is_below _ _ m room.b23_short;
        below_b23_long = room.back _ (middle_is_above _ _ m room.b23_long);
        above_b23_long = middle_is_below _ _ m room.b23_long;
        below_b34_short = middle_is_above _ _ m room.b34_short;
        above_b34_short = middle_is_below _ _ m room.b34_short;
        below_b34_long = middle_is_above _ _ m room.b34_long;
        above_b34_long = middle_is_below _ _ m room.b34_long;
        below_rpt = omega arith;
      }

  module _ (within : InRangeOf w) where
    bound : (below above : ℕ) → below + 2 * m < above → above ≤ 4095
        → (1 ≤ middle below above) × (middle below above ≤ 4095)
    bound below above h few = bound_in_range _ m _ _ (middle_is_above _ _ m h) (middle_is_below _ _ m h) few

    best_in_range : InRange (best_profile w)
    unfolding best_profile
    best_in_range =
        let few = small w within in
        let t1 = few.t1 in
        let t0 = few.t0 in
        let e = few.advance in
        let first = (margin_fits w k).below_t1 in
        let (t1_low, t1_high, (t0_low, t0_high, (early_low, early_high, (normal_low, normal_high, late)))) = within in
        let b23_short = bound _ _ room.b23_short (omega (arith, t1, t0, e)) in
        let b23_long = bound _ _ room.b23_long (omega (arith, t1, t0)) in
        let b34_short = bound _ _ room.b34_short (omega (arith, t1, t0, e)) in
        let b34_long = bound _ _ room.b34_long (omega (arith, t1, t0)) in (
          t1_low,
          t1_high,
          (
            t0_low,
            t0_high,
            (
              early_low,
              early_high,
              (
                normal_low,
                normal_high,
                (
                  late.0,
                  late.1,
                  (
                    room.least_min,
                    omega (arith, t1),
                    (
                      b23_short.0,
                      b23_short.1,
                      (
                        b23_long.0,
                        b23_long.1,
                        (b34_short.0, b34_short.1, (b34_long.0, b34_long.1, (omega arith, omega (arith, first, t1, t0), tt))),
                      ),
                    ),
                  ),
                ),
              ),
            ),
          ),
        )

    pub best_is_kept : Kept (best_profile w)
    unfolding best_profile
    best_is_kept = kept_if_spare (best_profile w) m best_in_range k.early_first k.late_last best_leaves_room

    pub best_is_accepted : (profile_rule (best_profile w)).number ≡ 0
    best_is_accepted = accepts_if_kept (best_profile w) best_is_kept

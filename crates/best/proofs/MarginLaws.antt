-- What it means that some windows are true, in sums with nothing cut off: the largest margin fits below T1 and, twice,
-- below T0. Rests on no axiom.
use Prim.Native.Nat.{ℕ, ◌+◌, ◌-◌, ◌*◌, ◌/◌, ◌≤◌, ◌<◌, min}
use mathlib.Core.Path.{◌≡◌}
use mathlib.Core.Bool.{true}
use native.Mathlib.Omega.{arith}
use borrow.Author.Tests.{leb-true, le-leb, lt-ltb}
use Rattle.timing.proofs.ProfileLaws.{first_holds, second_holds}
use Rattle.best.specs.Best.{InRangeOf, swing_of, advance_of, delay_of, has_windows, best_margin}
use Rattle.best.specs.declared.Writing.{Writing}

-- some windows are true
pub record Possible (w : Writing) : Type 0 where
  pub early_first : w.early.0 ≤ w.normal.0
  pub late_last : w.normal.0 ≤ w.late.0
  pub below_t1 : swing_of w < w.t1.0
  pub below_t0 : delay_of w < w.t0.0

pub possible : (w : Writing) → has_windows w ≡ true → Possible w
unfolding has_windows
possible w e = search (e, leb-true, first_holds, second_holds) depth 8

pub has_windows_if_possible : (w : Writing) → Possible w → has_windows w ≡ true
unfolding has_windows
has_windows_if_possible w k =
    rw (le-leb _ _ k.early_first, le-leb _ _ k.late_last, lt-ltb _ _ k.below_t1, lt-ltb _ _ k.below_t0)

pub parts_of : (w : Writing) → Possible w → swing_of w ≡ advance_of w + delay_of w
parts_of w k = let h = k.early_first in let g = k.late_last in omega (arith, h, g)

-- the lesser of two, the second halved
pub lesser_fits : (a b c d : ℕ) → b < a → d < c → (b + min (a - b - 1) ((c - d - 1) / 2) < a)
    × (d + 2 * min (a - b - 1) ((c - d - 1) / 2) < c)
lesser_fits a b c d h g = (omega arith, omega arith)

pub record Fits (w : Writing) : Type 0 where
  pub below_t1 : swing_of w + best_margin w < w.t1.0
  pub below_t0 : delay_of w + 2 * best_margin w < w.t0.0

pub margin_fits : (w : Writing) → Possible w → Fits w
unfolding best_margin
margin_fits w k =
    let f = lesser_fits w.t1.0 (swing_of w) w.t0.0 (delay_of w) k.below_t1 k.below_t0 in
    record { below_t1 = f.0; below_t0 = f.1 }

-- nothing larger does
pub fits_lesser : (a b c d m : ℕ) → b + m < a → d + 2 * m < c → m ≤ min (a - b - 1) ((c - d - 1) / 2)
fits_lesser a b c d m h g = omega arith

pub fits_is_within_the_margin
    : (w : Writing) (m : ℕ) → swing_of w + m < w.t1.0 → delay_of w + 2 * m < w.t0.0 → m ≤ best_margin w
unfolding best_margin
fits_is_within_the_margin w m h g = fits_lesser w.t1.0 (swing_of w) w.t0.0 (delay_of w) m h g

-- ---- how large the parts of the sums are

pub record Small (w : Writing) : Type 0 where
  pub t1 : w.t1.0 ≤ 1023
  pub t0 : w.t0.0 ≤ 1023
  pub swing : swing_of w ≤ 30
  pub advance : advance_of w ≤ 30
  pub delay : delay_of w ≤ 30

pub small : (w : Writing) → InRangeOf w → Small w
small w within =
    let (t1, t1_most, (t0, t0_most, (early, early_most, (normal, normal_most, (late, late_most, _))))) = within in
    record {
      t1 = t1_most;
      t0 = t0_most;
      swing = omega (arith, late_most);
      advance = omega (arith, normal_most);
      delay = omega (arith, late_most);
    }

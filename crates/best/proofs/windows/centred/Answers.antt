-- Why `centred` answers `best_profile`: each number is the definition's, under the ranges no sum wraps, and where some
-- windows are true nothing is cut off. Rests on no axiom.
use Prim.Native.Nat.{ℕ, ◌+◌, ◌≤◌, ◌<◌}
use mathlib.Core.Path.{◌≡◌}
use mathlib.Core.Bool.{true}
use native.Mathlib.Omega.{arith}
use Rattle.best.specs.Best.{InRangeOf, swing_of, advance_of, delay_of, has_windows, best_margin, best_profile}
use Rattle.best.specs.declared.Writing.{Writing}
use Rattle.best.specs.declared.windows.Shifts.{Shifts}
use Rattle.best.proofs.MarginLaws.{possible, parts_of, margin_fits, small}
use Rattle.best.proofs.windows.centred.Goals as goal

-- how large the parts of the sums are, and what is no more than T1
record Sums (t1 t0 d e l margin : ℕ) : Type 0 where
  t1_most : t1 ≤ 1023
  t0_most : t0 ≤ 1023
  d_most : d ≤ 30
  e_most : e ≤ 30
  l_most : l ≤ 30
  l_below : l < t1
  below_t1 : d + margin < t1

sums
    : (w : Writing) (s : Shifts) (margin : ℕ)
    → InRangeOf w
    → has_windows w ≡ true
    → margin ≡ best_margin w
    → s ≡ record { d = swing_of w; e = advance_of w; l = delay_of w }
    → Sums w.t1.0 w.t0.0 s.d s.e s.l margin
sums w s margin in_range windows m e =
    let few = small w in_range in
    let k = possible w windows in
    let fits = margin_fits w k in
    let parts = parts_of w k in
    let below = k.below_t1 in
    rw (e, m) (record {
      t1_most = few.t1;
      t0_most = few.t0;
      d_most = few.swing;
      e_most = few.advance;
      l_most = few.delay;
      l_below = omega (arith, parts, below);
      below_t1 = fits.below_t1;
    })

pub overflow_add-three-2 : goal.overflow_add-three-2
overflow_add-three-2 c =
    let r = c.requires in
    let s = sums _ _ _ r.in_range_of r.w_value r.margin_value c.shifts_of-s.ensures in omega (arith, s.t1_most, s.t0_most, s.e_most)

pub middle-b23_short-requires : goal.middle-b23_short-requires
middle-b23_short-requires c =
    let r = c.requires in
    let s = sums _ _ _ r.in_range_of r.w_value r.margin_value c.shifts_of-s.ensures in omega (arith, s.t1_most, s.t0_most, s.e_most)

pub overflow_sub-two : goal.overflow_sub-two
overflow_sub-two c =
    let r = c.requires in
    let s = sums _ _ _ r.in_range_of r.w_value r.margin_value c.shifts_of-s.ensures in omega (arith, s.l_below)

pub overflow_add-three-3 : goal.overflow_add-three-3
overflow_add-three-3 c =
    let r = c.requires in
    let s = sums _ _ _ r.in_range_of r.w_value r.margin_value c.shifts_of-s.ensures in
    omega (arith, s.t1_most, s.t0_most, s.d_most)

pub overflow_add-four-2 : goal.overflow_add-four-2
overflow_add-four-2 c =
    let r = c.requires in
    let s = sums _ _ _ r.in_range_of r.w_value r.margin_value c.shifts_of-s.ensures in
    omega (arith, s.t1_most, s.t0_most, s.e_most)

pub middle-b34_short-requires : goal.middle-b34_short-requires
middle-b34_short-requires c =
    let r = c.requires in
    let s = sums _ _ _ r.in_range_of r.w_value r.margin_value c.shifts_of-s.ensures in
    omega (arith, s.t1_most, s.t0_most, s.d_most, s.e_most)

pub overflow_add-three-4 : goal.overflow_add-three-4
overflow_add-three-4 c =
    let r = c.requires in
    let s = sums _ _ _ r.in_range_of r.w_value r.margin_value c.shifts_of-s.ensures in
    omega (arith, s.t1_most, s.t0_most, s.l_most)

pub middle-b34_long-requires : goal.middle-b34_long-requires
middle-b34_long-requires c =
    let r = c.requires in
    let s = sums _ _ _ r.in_range_of r.w_value r.margin_value c.shifts_of-s.ensures in
    omega (arith, s.t1_most, s.t0_most, s.l_most)

pub overflow_sub-result : goal.overflow_sub-result
overflow_sub-result c =
    let r = c.requires in
    let s = sums _ _ _ r.in_range_of r.w_value r.margin_value c.shifts_of-s.ensures in omega (arith, s.below_t1)

pub overflow_sub-result-2 : goal.overflow_sub-result-2
overflow_sub-result-2 c =
    let r = c.requires in
    let s = sums _ _ _ r.in_range_of r.w_value r.margin_value c.shifts_of-s.ensures in omega (arith, s.below_t1)

pub overflow_add-result : goal.overflow_add-result
overflow_add-result c =
    let r = c.requires in
    let s = sums _ _ _ r.in_range_of r.w_value r.margin_value c.shifts_of-s.ensures in omega (arith, s.t1_most, s.t0_most, s.d_most)

pub overflow_add-result-2 : goal.overflow_add-result-2
overflow_add-result-2 c =
    let r = c.requires in
    let s = sums _ _ _ r.in_range_of r.w_value r.margin_value c.shifts_of-s.ensures in omega (arith, s.t1_most, s.t0_most, s.d_most, s.below_t1)

pub overflow_add-result-3 : goal.overflow_add-result-3
overflow_add-result-3 c =
    let r = c.requires in
    let s = sums _ _ _ r.in_range_of r.w_value r.margin_value c.shifts_of-s.ensures in omega (arith, s.t1_most, s.t0_most, s.d_most, s.below_t1)

pub returns : goal.returns
unfolding best_profile
returns c =
    rw (
      c.middle-b34_long.ensures,
      c.middle-b34_short.ensures,
      c.middle-b23_long.ensures,
      c.middle-b23_short.ensures,
      c.shifts_of-s.ensures,
      ← c.requires.margin_value,
    )

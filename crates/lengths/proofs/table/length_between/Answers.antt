-- Why `lengths::table::length_between` answers `between`: both compare points lie between Early and Late, so nothing
-- wraps and the shift takes away no more than there is. Rests on no axiom.
use Prim.Native.Nat.{ℕ, ◌*◌, ◌≤◌, ◌<◌}
use native.Mathlib.Nat.{mul-le-mul}
use native.Mathlib.Omega.{arith}
use Rattle.timing.specs.declared.Profile.{Profile}
use Rattle.timing.proofs.ProfileLaws.{Kept, kept}
use Rattle.lengths.proofs.NeighbourLaws.{length_by_zeros}
use Rattle.lengths.proofs.PointLaws.{answered_point_is_in_range}
use Rattle.lengths.proofs.table.length_between.Goals as goal

zeros_take_little : {p : Profile} → Kept p → (zeros : ℕ) → zeros < 4 → zeros * p.t0.0 ≤ 3 * 1023
zeros_take_little {p} k zeros few =
    let t0 : p.t0.0 ≤ 1023 = omega arith in
    let three : zeros ≤ 3 = omega arith in
    mul-le-mul three t0

pub overflow_mul-nominal : goal.overflow_mul-nominal
overflow_mul-nominal c = omega (arith, zeros_take_little (kept _ c.requires.p_value) _ c.requires.zeros_bound)

pub overflow_add-nominal : goal.overflow_add-nominal
overflow_add-nominal c =
    let k = kept _ c.requires.p_value in
    omega (arith, zeros_take_little k _ c.requires.zeros_bound, k)

pub in_half_clocks-requires : goal.in_half_clocks-requires
in_half_clocks-requires c =
    let k = kept _ c.requires.p_value in
    omega (arith, answered_point_is_in_range k _ _ _ c.point-start.ensures, k)

pub in_half_clocks-requires-2 : goal.in_half_clocks-requires-2
in_half_clocks-requires-2 c =
    let k = kept _ c.requires.p_value in
    omega (arith, answered_point_is_in_range k _ _ _ c.point-end.ensures, k)

pub shifted-requires : goal.shifted-requires
shifted-requires c =
    let k = kept _ c.requires.p_value in
    omega (
      arith,
      zeros_take_little k _ c.requires.zeros_bound,
      answered_point_is_in_range k _ _ _ c.point-start.ensures,
      answered_point_is_in_range k _ _ _ c.point-end.ensures,
    )

pub returns : goal.returns
returns c =
    rw (c.shifted.ensures, c.in_half_clocks-2.ensures, c.in_half_clocks.ensures)
    (length_by_zeros _ _ _ _ _ _ c.point-start.ensures c.point-end.ensures)

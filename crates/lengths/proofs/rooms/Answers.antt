-- Why `lengths::rooms` answers `rooms_of`: each entry is the definition's, with the distances that the points give, and in
-- an accepted profile no sum wraps. Rests on no axiom.
use Prim.Native.Nat.{◌+◌, ◌*◌, ◌≤◌}
use mathlib.Core.Path.{◌≡◌}
use native.Mathlib.Omega.{arith}
use Rattle.timing.specs.Profile.{swing, advance, delay, profile_rule}
use Rattle.timing.specs.declared.Profile.{Profile}
use Rattle.timing.proofs.ProfileLaws.{kept}
use Rattle.lengths.specs.Margin.{rooms_of}
use Rattle.lengths.proofs.rooms.Goals as goal

-- how large the parts of the sums are
record Small (p : Profile) : Type 0 where
  three : p.t1.0 + p.t0.0 ≤ 2046
  four : p.t1.0 + 2 * p.t0.0 ≤ 3069
  whole : swing p ≤ 30
  first : advance p ≤ 30
  second : delay p ≤ 30

small : {p : Profile} → (profile_rule p).number ≡ 0 → Small p
unfolding swing advance delay
small accepts =
    let within = (kept _ accepts).ranges in
    let t1 = within.1 in
    let t0 = within.2.1 in
    let normal = within.2.2.2.1 in
    let late = within.2.2.2.2.1 in
    record {
      three = omega (arith, t1, t0);
      four = omega (arith, t1, t0);
      whole = omega (arith, late);
      first = omega (arith, normal);
      second = omega (arith, late);
    }

pub swing-d-requires : goal.swing-d-requires
swing-d-requires c = (kept _ c.requires).ranges

pub advance-e-requires : goal.advance-e-requires
advance-e-requires c = (kept _ c.requires).ranges

pub delay-l-requires : goal.delay-l-requires
delay-l-requires c = (kept _ c.requires).ranges

pub overflow_add-three : goal.overflow_add-three
overflow_add-three c = let s = small c.requires in omega (arith, s.three)

pub overflow_mul-four : goal.overflow_mul-four
overflow_mul-four c = let s = small c.requires in omega (arith, s.four)

pub overflow_add-four : goal.overflow_add-four
overflow_add-four c = let s = small c.requires in omega (arith, s.four)

pub overflow_add-three-2 : goal.overflow_add-three-2
overflow_add-three-2 c =
    let s = small c.requires in
    omega (arith, c.advance-e.ensures, s.three, s.first)

pub overflow_add-three-3 : goal.overflow_add-three-3
overflow_add-three-3 c =
    let s = small c.requires in
    omega (arith, c.swing-d.ensures, s.three, s.whole)

pub overflow_add-four-2 : goal.overflow_add-four-2
overflow_add-four-2 c =
    let s = small c.requires in
    omega (arith, c.advance-e.ensures, s.four, s.first)

pub overflow_add-three-4 : goal.overflow_add-three-4
overflow_add-three-4 c =
    let s = small c.requires in
    omega (arith, c.delay-l.ensures, s.three, s.second)

pub overflow_add-four-3 : goal.overflow_add-four-3
overflow_add-four-3 c =
    let s = small c.requires in
    omega (arith, c.swing-d.ensures, s.four, s.whole)

pub returns : goal.returns
unfolding rooms_of
returns c =
    rw (
      c.room_below-5.ensures,
      c.saturating_sub-7.ensures,
      c.room_below-4.ensures,
      c.saturating_sub-6.ensures,
      c.room_below-3.ensures,
      c.saturating_sub-5.ensures,
      c.room_below-2.ensures,
      c.saturating_sub-4.ensures,
      c.saturating_sub-3.ensures,
      c.room_below.ensures,
      c.saturating_sub-2.ensures,
      c.saturating_sub.ensures,
      c.delay-l.ensures,
      c.advance-e.ensures,
      c.swing-d.ensures,
    )

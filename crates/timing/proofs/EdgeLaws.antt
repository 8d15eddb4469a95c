-- What a loop asks of the next interval, by the edges: where they ascend, one that is reached has all before it
-- reached, so that two compares tell a cell, two more add up to its units, and one tells class 2. Every profile that is
-- accepted has ascending edges. Rests on no axiom.
use Rattle.std.proofs.Common.{◌≡◌, ℕ, ◌+◌, ◌-◌, ◌%◌, ◌^◌, ◌<◌, ◌≤◌, Bool, true, false, cond, ◌&&◌, ltb, leb, refl, arith, le-ltb, lt-ltb, le-leb}
use mathlib.Core.Bool.{false≢true}
use native.Mathlib.Decide.{dec_lt}
use borrow.Author.Tests.{lt-leb}
use Rattle.timing.specs.Profile.{profile_rule}
use Rattle.timing.specs.Class.{cursor_of, at_start, class_in, is_cell, is_two, class_number, Climbs, Ascending}
use Rattle.timing.specs.Class.{behind, cursor_past}
use Rattle.timing.specs.declared.Profile.{Profile}
use Rattle.timing.specs.declared.Bounds.{Bounds}
use Rattle.timing.specs.declared.cursor.Cursor.{Cursor}
use Rattle.timing.specs.declared.Class.TheVariants.{Three, Four, Wide}
use Rattle.timing.proofs.ClassLaws.{below_min_is_narrow, below_b23_is_two}
use Rattle.timing.proofs.ProfileLaws.{Kept, kept}
use mir.Val.{bool_byte}

ruleset tests = (lt-ltb, le-ltb, lt-leb, le-leb)

above_two : (t u : Bool) → is_two (cond t Three (cond u Four Wide)) ≡ false
above_two true u = refl
above_two false true = refl
above_two false false = refl

-- the edges climb after either kind
climbs_by
    : {low high : ℕ} {a b : Bounds} (two : Bool)
    → Climbs low a high
    → Climbs low b high
    → Climbs low (cond two a b) high
climbs_by true up down = up
climbs_by false up down = down

module _ (c : Cursor) (d : ℕ) where
  -- a cell, and where it is one its units
  abbrev pub ByEdges : Type 0
  ByEdges =
      ((leb c.min.0 d && ltb d c.rpt.0) ≡ is_cell (class_in c d))
      × (is_cell (class_in c d) ≡ true
      → 2 + bool_byte (leb c.bounds.b23.0 d) + bool_byte (leb c.bounds.b34.0 d) ≡ class_number (class_in c d))

  pub by_edges : Ascending c → ByEdges
  unfolding class_in
  by_edges ascends =
      let up = ascends.now in
      elim (dec_lt d c.min.0) [
        | yes narrow ↦ simp tests (refl, λ q. absurd (false≢true q))
        | no over ↦
            let two : c.min.0 ≤ d = omega arith in
            elim (dec_lt d c.bounds.b23.0) [
              | yes below ↦
                  let next : d < c.bounds.b34.0 = omega (arith, up.three) in
                  let last : d < c.rpt.0 = omega (arith, up.four) in
                  simp tests (refl, λ q. refl)
              | no over ↦
                  let three : c.bounds.b23.0 ≤ d = omega arith in
                  elim (dec_lt d c.bounds.b34.0) [
                    | yes below ↦
                        let last : d < c.rpt.0 = omega (arith, up.four) in
                        simp tests (refl, λ q. refl)
                    | no over ↦
                        let four : c.bounds.b34.0 ≤ d = omega arith in
                        elim (dec_lt d c.rpt.0) [
                          | yes below ↦ simp tests (refl, λ q. refl)
                          | no over ↦
                              let wide : c.rpt.0 ≤ d = omega arith in
                              simp tests (refl, λ q. absurd (false≢true q))
                        ]
                  ]
            ]
      ]

  from_b23_is_not_two : c.min.0 ≤ d → c.bounds.b23.0 ≤ d → is_two (class_in c d) ≡ false
  unfolding class_in
  from_b23_is_not_two h₂ h₃ = rw (le-ltb, le-ltb) (above_two (ltb d c.bounds.b34.0) (ltb d c.rpt.0))

  -- class 2, by the difference from Min, which wraps below it
  module _ (r : ℕ) (up : Ascending c) (wraps : (r + c.min.0) % 2 ^ 16 ≡ d) (fits : c.bounds.b23.0 < 2 ^ 16) where
    abbrev width : ℕ
    width = c.bounds.b23.0 - c.min.0

    pub two_by_difference : r < 2 ^ 16 → ltb r width ≡ is_two (class_in c d)
    two_by_difference small =
        let edges = up.now in
        elim (dec_lt d c.min.0) [
          | yes below ↦ rw (below_min_is_narrow c d below, le-ltb r width (omega arith))
          | no over ↦
              elim (dec_lt d c.bounds.b23.0) [
                | yes below ↦ rw (below_b23_is_two c d (omega arith) below, lt-ltb r width (omega arith))
                | no above ↦ rw (from_b23_is_not_two (omega arith) (omega arith), le-ltb r width (omega arith))
              ]
        ]

  -- class 2, by the two edges around it
  pub two_by_edges : (leb c.min.0 d && ltb d c.bounds.b23.0) ≡ is_two (class_in c d)
  two_by_edges =
      elim (dec_lt d c.min.0) [
        | yes below ↦ rw (below_min_is_narrow c d below, lt-leb c.min.0 d below)
        | no over ↦
            elim (dec_lt d c.bounds.b23.0) [
              | yes below ↦
                  rw (below_b23_is_two c d (omega arith) below, le-leb c.min.0 d (omega arith), lt-ltb d _ below)
              | no above ↦
                  rw (from_b23_is_not_two (omega arith) (omega arith), le-leb c.min.0 d (omega arith))
                  (le-ltb d c.bounds.b23.0 (omega arith))
            ]
      ]

pub ascending_behind : (c : Cursor) (two : Bool) → Ascending c → Ascending (behind c two)
unfolding behind
ascending_behind c two up =
    record { now = climbs_by two up.short up.long; short = up.short; long = up.long }

pub ascending_past : (c : Cursor) (d : ℕ) → Ascending c → Ascending (cursor_past c d)
unfolding cursor_past
ascending_past c d = ascending_behind c (is_two (class_in c d))

short_climbs : {p : Profile} → Kept p → Climbs p.min.0 p.short p.rpt.0
short_climbs k = record { two = omega arith; three = omega arith; four = omega arith }

long_climbs : {p : Profile} → Kept p → Climbs p.min.0 p.long p.rpt.0
long_climbs k = record { two = omega arith; three = omega arith; four = omega arith }

pub either_ascends : (p : Profile) (two : Bool) → (profile_rule p).number ≡ 0 → Ascending (cursor_of p two)
unfolding cursor_of
either_ascends p two accepts =
    let k = kept p accepts in
    let short = short_climbs k in
    let long = long_climbs k in
    record { now = climbs_by two short long; short = short; long = long }

pub accepted_ascends : (p : Profile) → (profile_rule p).number ≡ 0 → Ascending (at_start p)
unfolding at_start
accepted_ascends p = either_ascends p true

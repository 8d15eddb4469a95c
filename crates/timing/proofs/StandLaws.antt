-- The class of an interval tells the edges on both sides of it, since it goes by them in their order. Rests on no axiom.
use Rattle.std.proofs.Common.{◌≡◌, ℕ, ◌<◌, ◌≤◌, Bool, arith}
use native.Mathlib.Decide.{dec_lt}
use Rattle.timing.specs.Class.{cursor_of, class_in, class_of}
use Rattle.timing.specs.declared.Profile.{Profile}
use Rattle.timing.specs.declared.Class.{Class}
use Rattle.timing.specs.declared.Class.TheVariants.{Narrow, Two, Three, Four, Wide}
use Rattle.timing.specs.declared.cursor.Cursor.{Cursor}
use Rattle.timing.proofs.ClassLaws.{below_min_is_narrow, below_b23_is_two, below_b34_is_three, below_rpt_is_four}
use Rattle.timing.proofs.ClassLaws.{from_rpt_is_wide, bounds_of}

pub data Stands (c : Cursor) (d : ℕ) : Class → Type 0 where
  narrow : d < c.min.0 → Stands c d Narrow
  two : c.min.0 ≤ d → d < c.bounds.b23.0 → Stands c d Two
  three : c.bounds.b23.0 ≤ d → d < c.bounds.b34.0 → Stands c d Three
  four : c.bounds.b34.0 ≤ d → d < c.rpt.0 → Stands c d Four
  wide : c.rpt.0 ≤ d → Stands c d Wide

pub stands : (c : Cursor) (d : ℕ) → Stands c d (class_in c d)
stands c d =
    elim (dec_lt d c.min.0) [
      | yes h ↦ rw (below_min_is_narrow c d h) (narrow h)
      | no h ↦
          let i : c.min.0 ≤ d = omega arith in
          elim (dec_lt d c.bounds.b23.0) [
            | yes h ↦ rw (below_b23_is_two c d i h) (two i h)
            | no h ↦
                let j : c.bounds.b23.0 ≤ d = omega arith in
                elim (dec_lt d c.bounds.b34.0) [
                  | yes h ↦ rw (below_b34_is_three c d i j h) (three j h)
                  | no h ↦
                      let k : c.bounds.b34.0 ≤ d = omega arith in
                      elim (dec_lt d c.rpt.0) [
                        | yes h ↦ rw (below_rpt_is_four c d i j k h) (four k h)
                        | no h ↦
                            let l : c.rpt.0 ≤ d = omega arith in
                            rw (from_rpt_is_wide c d i j k l) (wide l)
                      ]
                ]
          ]
    ]

-- so an interval of class 2, 3 or 4 is between the edges of that class
module _ {c : Cursor} {d : ℕ} where
  pub between_two : Stands c d Two → (c.min.0 ≤ d) × (d < c.bounds.b23.0)
  between_two (two h₁ h₂) = (h₁, h₂)

  pub between_three : Stands c d Three → (c.bounds.b23.0 ≤ d) × (d < c.bounds.b34.0)
  between_three (three h₁ h₂) = (h₁, h₂)

  pub between_four : Stands c d Four → (c.bounds.b34.0 ≤ d) × (d < c.rpt.0)
  between_four (four h₁ h₂) = (h₁, h₂)

module _ (p : Profile) (two_before : Bool) (d : ℕ) where
  pub within_two : class_of p two_before d ≡ Two → (p.min.0 ≤ d) × (d < (bounds_of p two_before).b23.0)
  unfolding class_of cursor_of
  within_two e = between_two {c = cursor_of p two_before} (rw (← e) (stands (cursor_of p two_before) d))

  pub within_three
      : class_of p two_before d ≡ Three → ((bounds_of p two_before).b23.0 ≤ d) × (d < (bounds_of p two_before).b34.0)
  unfolding class_of cursor_of
  within_three e = between_three {c = cursor_of p two_before} (rw (← e) (stands (cursor_of p two_before) d))

  pub within_four : class_of p two_before d ≡ Four → ((bounds_of p two_before).b34.0 ≤ d) × (d < p.rpt.0)
  unfolding class_of cursor_of
  within_four e = between_four {c = cursor_of p two_before} (rw (← e) (stands (cursor_of p two_before) d))

-- The edges of a true profile ascend strictly after either kind, so that the class changes at each of them. Rests on no
-- axiom.
use Prim.Native.Nat.{ℕ, ◌-◌, ◌≤◌, ◌<◌}
use mathlib.Core.Path.{◌≡◌}
use mathlib.Core.Bool.{Bool, true, false}
use native.Mathlib.Omega.{arith}
use native.Mathlib.Nat.{le_refl, le_trans, lt_trans}
use Rattle.timing.specs.Class.{class_of}
use Rattle.timing.specs.declared.Profile.{Profile}
use Rattle.timing.specs.declared.Class.TheVariants.{Narrow, Two, Three, Four, Wide}
use Rattle.timing.proofs.ProfileLaws.{Kept}
use Rattle.timing.proofs.ClassLaws.{bounds_of, class_below_min_is_narrow, class_below_b23_is_two}
use Rattle.timing.proofs.ClassLaws.{class_below_b34_is_three, class_below_rpt_is_four, class_from_rpt_is_wide}

-- the edges of a true profile, after either kind
pub record Strict (p : Profile) (two : Bool) : Type 0 where
  pub first : 1 ≤ p.min.0
  pub second : p.min.0 < (bounds_of p two).b23.0
  pub third : (bounds_of p two).b23.0 < (bounds_of p two).b34.0
  pub fourth : (bounds_of p two).b34.0 < p.rpt.0
  pub last : p.rpt.0 < 65536

pub strict : {p : Profile} → Kept p → (two : Bool) → Strict p two
strict k true = record {
  first = omega arith;
  second = omega arith;
  third = omega arith;
  fourth = omega arith;
  last = omega arith;
}
strict k false = record {
  first = omega arith;
  second = omega arith;
  third = omega arith;
  fourth = omega arith;
  last = omega arith;
}

less : {a b : ℕ} → a < b → a ≤ b
less h = omega arith

below : {a b : ℕ} → a < b → a ≤ b - 1
below h = omega arith

short : {a b : ℕ} → a < b → b - 1 < b
short h = omega arith

pub min_fits : {p : Profile} → Kept p → p.min.0 < 65536
min_fits k = let s = strict k true in omega (arith, s)

pub b23_fits : {p : Profile} → Kept p → (two : Bool) → (bounds_of p two).b23.0 < 65536
b23_fits k two = let s = strict k two in lt_trans (lt_trans s.third s.fourth) s.last

pub b34_fits : {p : Profile} → Kept p → (two : Bool) → (bounds_of p two).b34.0 < 65536
b34_fits k two = let s = strict k two in lt_trans s.fourth s.last

pub b23_some : {p : Profile} → Kept p → (two : Bool) → 1 ≤ (bounds_of p two).b23.0
b23_some k two = let s = strict k two in le_trans s.first (less s.second)

pub b34_some : {p : Profile} → Kept p → (two : Bool) → 1 ≤ (bounds_of p two).b34.0
b34_some k two = let s = strict k two in le_trans (b23_some k two) (less s.third)

-- ---- the class on each side of an edge

module _ {p : Profile} (k : Kept p) where
  pub class_at_b23 : (two : Bool) → class_of p two (bounds_of p two).b23.0 ≡ Three
  class_at_b23 two = let s = strict k two in class_below_b34_is_three p two _ (less s.second) (le_refl _) s.third

  pub class_below_b23 : (two : Bool) → class_of p two ((bounds_of p two).b23.0 - 1) ≡ Two
  class_below_b23 two = let s = strict k two in class_below_b23_is_two p two _ (below s.second) (short s.second)

  pub class_at_b34 : (two : Bool) → class_of p two (bounds_of p two).b34.0 ≡ Four
  class_at_b34 two =
      let s = strict k two in
      class_below_rpt_is_four p two _ (less (lt_trans s.second s.third)) (less s.third) (le_refl _) s.fourth

  pub class_below_b34 : (two : Bool) → class_of p two ((bounds_of p two).b34.0 - 1) ≡ Three
  class_below_b34 two =
      let s = strict k two in
      class_below_b34_is_three p two _ (below (lt_trans s.second s.third)) (below s.third) (short s.third)

  pub class_below_min : (two : Bool) → class_of p two (p.min.0 - 1) ≡ Narrow
  class_below_min two = let s = strict k two in class_below_min_is_narrow p two _ (short s.first)

  pub class_at_rpt : (two : Bool) → class_of p two p.rpt.0 ≡ Wide
  class_at_rpt two =
      let s = strict k two in
      class_from_rpt_is_wide p two _ (less (lt_trans s.second (lt_trans s.third s.fourth)))
      (less (lt_trans s.third s.fourth)) (less s.fourth) (le_refl _)

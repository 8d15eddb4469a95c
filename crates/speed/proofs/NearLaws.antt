-- A sum that is not off speed is within a sixteenth of 32 × T1, and so above 0; a number that is corrected by it is within
-- that as well. Rests on no axiom.
use Prim.Native.Nat.{ℕ, ◌*◌, ◌/◌, ◌≤◌, ◌<◌}
use mathlib.Core.Path.{◌≡◌, sym, ap, ◌∙◌}
use mathlib.Core.Bool.{false}
use native.Mathlib.Nat.{mul_comm, mul_assoc, mul-le-mul_left, mul-le-mul_right, le-div_iff_mul-le, div-mul-le_self}
use native.Mathlib.Nat.{le_of_mul-le-mul_right}
use native.Mathlib.Omega.{arith}
use borrow.Author.Tests.{ltb-false}
use Rattle.refusal.proofs.AnswerLaws.{refuse_if_accepts}
use Rattle.pace.specs.Pace.{differs, off_speed, pace_rule, corrected}

module _ (t s : ℕ) (e : off_speed (32 * t) s ≡ false) where
  pub near_speed : (s ≤ 34 * t) × (30 * t ≤ s)
  unfolding off_speed
  near_speed = let h = ltb-false (32 * t) (16 * differs (32 * t) s) e in (omega (arith, h), omega (arith, h))

  module _ (some : 0 < t) where
    pub sum_is_some : 0 < s
    sum_is_some = omega (arith, near_speed.1, some)

    pub at_least : (d : ℕ) → 16 * d / 17 ≤ corrected (32 * t) s d
    unfolding corrected
    at_least d =
        let q = 16 * d / 17 in
        let over : q * 17 ≤ 16 * d = div-mul-le_self (16 * d) 17 in
        let wide : q * s ≤ q * (34 * t) = mul-le-mul_left q near_speed.0 in
        let scaled : q * 17 * (2 * t) ≤ 16 * d * (2 * t) = mul-le-mul_right (2 * t) over in
        let left : q * (34 * t) ≡ q * 17 * (2 * t) = ap (λ (x : ℕ). q * x) (omega arith) ∙ sym (mul_assoc q 17 (2 * t)) in
        let right : 16 * d * (2 * t) ≡ d * (32 * t) =
        ap (λ (x : ℕ). x * (2 * t)) (mul_comm 16 d) ∙ mul_assoc d 16 (2 * t) ∙ ap (λ (x : ℕ). d * x) (omega arith) in
        (le-div_iff_mul-le sum_is_some).1 (omega (arith, wide, scaled, left, right))

    pub at_most : (d : ℕ) → corrected (32 * t) s d ≤ 16 * d / 15
    unfolding corrected
    at_most d =
        let c = d * (32 * t) / s in
        let under : c * s ≤ d * (32 * t) = div-mul-le_self (d * (32 * t)) s in
        let narrow : c * (30 * t) ≤ c * s = mul-le-mul_left c near_speed.1 in
        let left : c * (30 * t) ≡ c * 15 * (2 * t) = ap (λ (x : ℕ). c * x) (omega arith) ∙ sym (mul_assoc c 15 (2 * t)) in
        let right : d * (32 * t) ≡ 16 * d * (2 * t) =
        ap (λ (x : ℕ). d * x) (omega arith) ∙ sym (mul_assoc d 16 (2 * t)) ∙ ap (λ (x : ℕ). x * (2 * t)) (mul_comm d 16) in
        let scaled : c * 15 * (2 * t) ≤ 16 * d * (2 * t) = omega (arith, under, narrow, left, right) in
        let some_two : 0 < 2 * t = omega (arith, some) in
        let some_15 : 0 < 15 = omega arith in
        (le-div_iff_mul-le some_15).1 (le_of_mul-le-mul_right {m = c * 15} {n = 16 * d} scaled some_two)

-- where neither is refused
pub pace_accepts
    : (full even odd : ℕ)
    → (pace_rule full even odd).number ≡ 0
    → (off_speed full even ≡ false) × (off_speed full odd ≡ false)
unfolding pace_rule
pace_accepts full even odd h =
    let (first, later) = refuse_if_accepts (off_speed full even) 17 0 _ h in
    (first, (refuse_if_accepts (off_speed full odd) 17 1 _ later).0)

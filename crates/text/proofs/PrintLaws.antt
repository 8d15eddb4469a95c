-- The digits of a number: the last digit stands after those of the number without it. Rests on no axiom.
use Prim.Native.Nat.{ℕ, zero, suc, ◌/◌, ◌%◌, ◌^◌, ◌≤◌, ◌<◌}
use mathlib.Core.Path.{◌≡◌, refl, ◌∙◌}
use mathlib.Core.Bool.{true, false}
use mathlib.Core.List.{[], ◌∷◌, ◌++◌}
use native.Mathlib.Nat.{pow-suc}
use native.Mathlib.Omega.{arith}
use lib.Dec.{ltb}
use lib.ListN.{length, length-append}
use borrow.Author.Tests.{lt-ltb, le-ltb, ltb-true, ltb-false}
use Rattle.text.specs.Decimal.{digit, digits_of, decimal}

-- how many digits a number has at most does not matter
digits_within : (m k n : ℕ) → n ≤ m → n ≤ k → digits_of m n ≡ digits_of k n
unfolding digits_of
digits_within zero zero n p q = refl
digits_within zero (suc k) n p q = rw (lt-ltb n 10 (omega arith))
digits_within (suc m) zero n p q = rw (lt-ltb n 10 (omega arith))
digits_within (suc m) (suc k) n p q = rw (digits_within m k (n / 10) (omega arith) (omega arith))

pub decimal_of_digit : (n : ℕ) → n < 10 → decimal n ≡ digit n ∷ []
unfolding decimal digits_of
decimal_of_digit zero h = refl
decimal_of_digit (suc n) h = rw (lt-ltb (suc n) 10 h)

pub decimal_of_more : (n : ℕ) → 10 ≤ n → decimal n ≡ decimal (n / 10) ++ (digit (n % 10) ∷ [])
unfolding decimal digits_of
decimal_of_more zero h = absurd (omega arith)
decimal_of_more (suc n) h =
    rw (le-ltb (suc n) 10 h, digits_within n (suc n / 10) (suc n / 10) (omega arith) (omega arith))

pub decimal_length_of_digit : (n : ℕ) → n < 10 → length (decimal n) ≡ 1
decimal_length_of_digit n h = rw (decimal_of_digit n h)

pub decimal_length_of_more : (n : ℕ) → 10 ≤ n → length (decimal n) ≡ suc (length (decimal (n / 10)))
decimal_length_of_more n h =
    rw (decimal_of_more n h) (length-append (decimal (n / 10)) (digit (n % 10) ∷ []) ∙ omega arith)

-- a number below ten to the k has at most k digits, but for 0, which has one
pub decimal_within : (k n : ℕ) → n < 10 ^ suc k → length (decimal n) ≤ suc k
decimal_within zero n h = omega (arith, decimal_length_of_digit n h)
decimal_within (suc k) n h =
    (elim (ltb n 10) as (λ t. ltb n 10 ≡ t → length (decimal n) ≤ suc (suc k)) [
      | true ↦ λ e. omega (arith, decimal_length_of_digit n (ltb-true n 10 e))
      | false ↦ λ e.
          omega (
            arith,
            decimal_length_of_more n (ltb-false n 10 e),
            decimal_within k (n / 10) (omega (arith, pow-suc 10 (suc k))),
          )
    ]) refl

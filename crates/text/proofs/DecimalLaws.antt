-- Digits as they are read: one after the other, until one is no digit, the number is too large, or none is left.
-- Rests on no axiom.
use Rattle.std.specs.Prelude.{Option, Some, None}
use Prim.Native.Nat.{ℕ, suc, ◌+◌, ◌-◌, ◌*◌, ◌≤◌, ◌<◌}
use mathlib.Core.Path.{◌≡◌, refl}
use mathlib.Core.Bool.{Bool, true, false, cond, not, ◌&&◌, and-false}
use mathlib.Core.List.{List, [], ◌∷◌}
use native.Mathlib.Omega.{arith}
use lib.Dec.{eqb, leb}
use lib.ListN.{length, get_or}
use borrow.Author.Tests.{le-leb, lt-leb, ne_eqb}
use Rattle.lists.specs.Place.{everywhere}
use Rattle.text.specs.Decimal.{digit, is_digit, no_leading_zero, value_from, value_of, is_short, is_decimal, digits_read}
use Rattle.text.specs.Decimal.{decimal_read}

-- what digits after those of n are as a number
unfoldable pub digits_after : ℕ → List ℕ → Option ℕ
digits_after n ds = cond (everywhere is_digit ds && leb (value_from n ds) 65535) (Some (value_from n ds)) None

pub digits_after_none : (ds : List ℕ) → digits_after 0 ds ≡ digits_read ds
unfolding digits_after digits_read is_short value_of
digits_after_none ds = refl

pub value_grows : (n : ℕ) (ds : List ℕ) → n ≤ value_from n ds
unfolding value_from
value_grows n [] = omega arith
value_grows n (d ∷ ds) = omega (arith, value_grows (n * 10 + (d - digit 0)) ds)

pub digits_at_the_end : (n : ℕ) → n ≤ 65535 → digits_after n [] ≡ Some n
unfolding digits_after everywhere value_from
digits_at_the_end n h = rw (le-leb n 65535 h)

pub digits_too_large : (n : ℕ) (ds : List ℕ) → 65535 < n → digits_after n ds ≡ None
unfolding digits_after
digits_too_large n ds h = rw (lt-leb (value_from n ds) 65535 (omega (arith, value_grows n ds)), and-false)

pub digits_at_digit : (n d : ℕ) (ds : List ℕ)
    → 48 ≤ d
    → d ≤ 57
    → digits_after n (d ∷ ds) ≡ digits_after (n * 10 + (d - 48)) ds
unfolding digits_after everywhere value_from
digits_at_digit n d ds h k = rw (le-leb 48 d h, le-leb d 57 k)

pub digits_below : (n d : ℕ) (ds : List ℕ) → d < 48 → digits_after n (d ∷ ds) ≡ None
unfolding digits_after everywhere value_from
digits_below n d ds h = rw (lt-leb 48 d h)

pub digits_above : (n d : ℕ) (ds : List ℕ) → 57 < d → digits_after n (d ∷ ds) ≡ None
unfolding digits_after everywhere value_from
digits_above n d ds h = rw (le-leb 48 d (omega arith), lt-leb d 57 h)

-- a decimal is digits with no leading zero
pub decimal_read_is_digits : (ds : List ℕ) → decimal_read ds ≡ cond (no_leading_zero ds) (digits_read ds) None
unfolding decimal_read is_decimal digits_read
decimal_read_is_digits ds =
    let read : Bool → Option ℕ = λ t. cond t (Some (value_of ds)) None in
    elim (no_leading_zero ds) as (λ t. read (t && is_short ds) ≡ cond t (read (is_short ds)) None)
    [ true ↦ refl | false ↦ refl ]

-- by the number of its digits
pub no_leading_zero_by_length : (ds : List ℕ)
    → no_leading_zero ds ≡ cond (eqb (length ds) 0) false (cond (eqb (length ds) 1) true (not (eqb (get_or ds 0 0) 48)))
unfolding no_leading_zero
no_leading_zero_by_length [] = refl
no_leading_zero_by_length (d ∷ []) = refl
no_leading_zero_by_length (d ∷ e ∷ ds) =
    rw (ne_eqb (suc (suc (length ds))) 0 (λ h. omega arith), ne_eqb (suc (suc (length ds))) 1 (λ h. omega arith))

-- what an answer says of the field
pub malformed_is_no_decimal : (field : List ℕ) → decimal_read field ≡ None → is_decimal field ≡ false
unfolding decimal_read
malformed_is_no_decimal field e =
    (elim (is_decimal field) as (λ t. cond t (Some (value_of field)) None ≡ None → t ≡ false)
    [ true ↦ λ q. cc | false ↦ λ q. refl ]) e

pub number_is_decimal : (field : List ℕ) (n : ℕ)
    → decimal_read field ≡ Some n
    → (is_decimal field ≡ true) × (value_of field ≡ n)
unfolding decimal_read
number_is_decimal field n e =
    (elim (is_decimal field) as (λ t. cond t (Some (value_of field)) None ≡ Some n → (t ≡ true)
    × (value_of field ≡ n))
    [ true ↦ λ q. (refl, cc) | false ↦ λ q. (cc, cc) ]) e

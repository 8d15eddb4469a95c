-- Why a printed number is read back: its digits have no leading zero, and their value is the number. Rests on no axiom.
use Prim.Native.Nat.{ℕ, zero, suc, ◌+◌, ◌-◌, ◌*◌, ◌/◌, ◌%◌, ◌≤◌, ◌<◌}
use mathlib.Core.Path.{◌≡◌, refl, ◌∙◌}
use mathlib.Core.Bool.{true, false, cond}
use mathlib.Core.List.{List, [], ◌∷◌, ◌++◌}
use native.Mathlib.Omega.{arith}
use lib.Dec.{ltb}
use lib.ListN.{length, get_or, length-append, get_or-append}
use borrow.Author.Tests.{le-leb, ne_eqb, ltb-true, ltb-false}
use Rattle.lists.specs.Place.{everywhere}
use Rattle.lists.proofs.PlaceLaws.{everywhere-append}
use Rattle.text.specs.Decimal.{digit, digits_of, decimal, is_digit, no_leading_zero, value_from, value_of, is_short}
use Rattle.text.specs.Decimal.{is_decimal, decimal_read}
use Rattle.text.specs.Claims.{DecimalReadsBack}

-- what the digits of a number are: from 1 on they begin with another digit than 0
pub record Printed (n : ℕ) (ds : List ℕ) : Type 0 where
  pub value : value_from 0 ds ≡ n
  pub digits : everywhere is_digit ds ≡ true
  some : 1 ≤ length ds
  other : 1 ≤ n → 48 < get_or ds 0 0

value_of-append : (n : ℕ) (a b : List ℕ) → value_from n (a ++ b) ≡ value_from (value_from n a) b
unfolding value_from
value_of-append n [] b = refl
value_of-append n (d ∷ a) b = value_of-append (n * 10 + (d - digit 0)) a b

one : (n : ℕ) → n < 10 → Printed n (digit n ∷ [])
unfolding value_from everywhere
one n h =
    record {
      value = omega arith;
      digits = rw (le-leb 48 (48 + n) (omega arith), le-leb (48 + n) 57 (omega arith));
      some = omega arith;
      other = λ p. omega arith;
    }

more : (n : ℕ) (ds : List ℕ) → 10 ≤ n → Printed (n / 10) ds → Printed n (ds ++ (digit (n % 10) ∷ []))
unfolding value_from
more n ds h front =
    let last = digit (n % 10) ∷ [] in
    record {
      value = value_of-append 0 ds last ∙ rw front.value (omega arith);
      digits = rw (everywhere-append, front.digits, (one (n % 10) (omega arith)).digits);
      some = omega (arith, length-append ds last, front.some);
      other = λ p. omega (arith, get_or-append ds last 0 0 front.some, front.other (omega arith));
    }

printed_within : (most n : ℕ) → n ≤ most → Printed n (digits_of most n)
unfolding digits_of
printed_within zero n h = one n (omega arith)
printed_within (suc most) n h =
    (elim (ltb n 10) as (λ t.
    ltb n 10 ≡ t → Printed n (cond t (digit n ∷ []) (digits_of most (n / 10) ++ (digit (n % 10) ∷ [])))) [
      | true ↦ λ e. one n (ltb-true n 10 e)
      | false ↦ λ e. more n _ (ltb-false n 10 e) (printed_within most (n / 10) (omega (arith, ltb-false n 10 e)))
    ]) refl

pub printed : (n : ℕ) → Printed n (decimal n)
unfolding decimal
printed n = printed_within n n (omega arith)

other_first : (ds : List ℕ) → 1 ≤ length ds → 48 < get_or ds 0 0 → no_leading_zero ds ≡ true
unfolding no_leading_zero
other_first [] p q = absurd (omega arith)
other_first (d ∷ []) p q = refl
other_first (d ∷ e ∷ ds) p q = rw (ne_eqb d 48 (λ h. omega arith))

has_no_leading_zero : (n : ℕ) → no_leading_zero (decimal n) ≡ true
unfolding no_leading_zero decimal digits_of
has_no_leading_zero zero = refl
has_no_leading_zero (suc n) =
    let p = printed (suc n) in other_first (decimal (suc n)) p.some (p.other (omega arith))

pub decimal_reads_back : DecimalReadsBack
unfolding decimal_read is_decimal is_short value_of
decimal_reads_back n h = rw (has_no_leading_zero n, (printed n).digits, (printed n).value, le-leb n 65535 h)

-- The byte of two hexadecimal digits. Rests on no axiom.
use Rattle.std.specs.Prelude.{Option, Some, None, is_some, unwrap_or}
use Prim.Native.Nat.{ℕ, suc, ◌+◌, ◌*◌, ◌<◌, ◌≤◌}
use mathlib.Core.Path.{◌≡◌, refl, sym, ap}
use mathlib.Core.Bool.{Bool, true, false, cond, ◌&&◌, true≢false, false≢true}
use mathlib.Core.List.{List, [], ◌∷◌}
use native.Mathlib.Omega.{arith}
use lib.Dec.{eqb, ltb}
use lib.ListN.{length, get_or}
use borrow.Author.Tests.{ne_eqb, ltb-true, ltb-false, lt-ltb}
use Rattle.text.specs.Hex.{hex_digit, digit_read, is_hex_byte, hex_byte, byte_read}

-- ---- a digit

module _ (b : ℕ) where
  pub digit_is : (d : ℕ) → hex_digit b ≡ d → d < 16 → Some d ≡ digit_read b
  unfolding digit_read
  digit_is d e h = rw (e, lt-ltb d 16 h)

  pub no_digit : hex_digit b ≡ 16 → None ≡ digit_read b
  unfolding digit_read
  no_digit e = rw e

  known_by : (t : Bool) (n d : ℕ) → ltb n 16 ≡ t → cond t (Some n) None ≡ Some d → (d ≡ n) × (d < 16)
  known_by true n d p e =
      let same : n ≡ d = ap (λ (o : Option ℕ). unwrap_or o 0) e in (sym same, omega (arith, ltb-true n 16 p, same))
  known_by false n d p e = absurd (false≢true (ap is_some e))

  pub digit_known : (d : ℕ) → Some d ≡ digit_read b → (d ≡ hex_digit b) × (d < 16)
  unfolding digit_read
  digit_known d e = known_by (ltb (hex_digit b) 16) (hex_digit b) d refl (sym e)

  none_by : (t : Bool) (n : ℕ) → ltb n 16 ≡ t → cond t (Some n) None ≡ None → 16 ≤ n
  none_by true n p e = absurd (true≢false (ap is_some e))
  none_by false n p e = ltb-false n 16 p

  pub none_known : None ≡ digit_read b → 16 ≤ hex_digit b
  unfolding digit_read
  none_known e = none_by (ltb (hex_digit b) 16) (hex_digit b) refl (sym e)

-- ---- two digits

-- by the number of its characters and the numbers of the first two
pub byte_by_length : (field : List ℕ) (high low : ℕ)
    → high ≡ hex_digit (get_or field 0 0)
    → low ≡ hex_digit (get_or field 1 0)
    → byte_read field
    ≡ cond (eqb (length field) 2 && (ltb high 16 && ltb low 16)) (Some (high * 16 + low)) None
unfolding byte_read is_hex_byte hex_byte
byte_by_length [] high low p q = refl
byte_by_length (a ∷ []) high low p q = refl
byte_by_length (a ∷ b ∷ []) high low p q = rw (p, q)
byte_by_length (a ∷ b ∷ c ∷ ds) high low p q = rw (ne_eqb (suc (suc (suc (length ds)))) 2 (λ h. omega arith))

-- what an answer says of the field
pub malformed_is_no_byte : (field : List ℕ) → byte_read field ≡ None → is_hex_byte field ≡ false
unfolding byte_read
malformed_is_no_byte field e =
    (elim (is_hex_byte field) as (λ t. cond t (Some (hex_byte field)) None ≡ None → t ≡ false)
    [ true ↦ λ q. cc | false ↦ λ q. refl ]) e

pub value_is_byte : (field : List ℕ) (b : ℕ) → byte_read field ≡ Some b → (is_hex_byte field ≡ true) × (hex_byte field ≡ b)
unfolding byte_read
value_is_byte field b e =
    (elim (is_hex_byte field) as (λ t. cond t (Some (hex_byte field)) None ≡ Some b → (t ≡ true)
    × (hex_byte field ≡ b))
    [ true ↦ λ q. (refl, cc) | false ↦ λ q. (cc, cc) ]) e

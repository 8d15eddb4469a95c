-- Laws of the check register: a bit's step is linear over exclusive-or. So a byte's eight steps are those of what leaves
-- at the top, added to the low byte moved up, and a register that is fed its own two bytes is zero.
use Prim.Native.Nat.{ℕ, zero, suc, ◌+◌, ◌*◌, ◌/◌, ◌%◌, ◌^◌, ◌<◌, ◌≤◌}
use mathlib.Core.Path.{◌≡◌, refl, sym, ap, ap₂, ◌∙◌}
use native.Mathlib.Nat.{add-zero, pow-succ', div-add-mod', mul_assoc, mul-one, mul-le-mul_left}
use native.Mathlib.Decide.{dec_lt}
use native.Mathlib.Omega.{arith}
use borrow.Author.Tests.{lt-ltb, le-ltb}
use lib.Pow.{pow_pos}
use lib.Bits.{bit_xor, xor_shr, xor_mod, xor_lt, xor_block, xor_shifted, xor_self, xor_zero_r}
use Rattle.register.specs.Register.{polynomial, shifted, shifted_by, fed, high_byte, low_byte}
use Rattle.register.proofs.XorLaws.{xor_up, xor_switch, xor_exchange}

-- ---- one bit

-- below the top bit the register only moves up
shifted_below_top_is_double : (r : ℕ) → r < 0x8000 → shifted r ≡ r * 2
unfolding shifted
shifted_below_top_is_double r h = rw (lt-ltb r 0x8000 h)

pub shifted_bound : (r : ℕ) → shifted r < 0x10000
unfolding shifted
shifted_bound r =
    elim (dec_lt r 0x8000) [
      | yes h ↦ rw lt-ltb (omega arith)
      | no h ↦
          let above : 0x8000 ≤ r = omega arith in
          rw le-ltb (xor_lt 16 (r * 2 % 0x10000) polynomial (omega arith) (omega arith))
    ]

-- both cases as one sum
shifted_is_sum : (r : ℕ) → r < 0x10000 → shifted r ≡ bit_xor (r * 2 % 0x10000) (r / 0x8000 * polynomial)
unfolding shifted
shifted_is_sum r small =
    elim (dec_lt r 0x8000) [
      | yes h ↦
          let moved : r * 2 % 0x10000 ≡ r * 2 = omega arith in
          let none : r / 0x8000 * polynomial ≡ 0 = omega arith in
          rw (lt-ltb, moved, none) (sym (xor_zero_r (r * 2)))
      | no h ↦
          let above : 0x8000 ≤ r = omega arith in
          let one : r / 0x8000 * polynomial ≡ polynomial = omega arith in
          rw (le-ltb, one)
    ]

pub shifted_of_xor : (a b : ℕ) → a < 0x10000 → b < 0x10000 → shifted (bit_xor a b) ≡ bit_xor (shifted a) (shifted b)
shifted_of_xor a b ha hb =
    shifted_is_sum (bit_xor a b) (xor_lt 16 a b ha hb)
    ∙ ap₂ bit_xor (ap (λ (x : ℕ). x % 0x10000) (xor_up 1 a b) ∙ xor_mod (a * 2) (b * 2) 16)
    (ap (λ (x : ℕ). x * polynomial) (xor_shr a b 15)
    ∙ xor_switch polynomial (a / 0x8000) (b / 0x8000) (omega arith) (omega arith))
    ∙ xor_exchange (a * 2 % 0x10000) (b * 2 % 0x10000) (a / 0x8000 * polynomial) (b / 0x8000 * polynomial)
    ∙ sym (ap₂ bit_xor (shifted_is_sum a ha) (shifted_is_sum b hb))

-- ---- several bits

pub shifted_by_of_xor : (n a b : ℕ) → a < 0x10000 → b < 0x10000
    → shifted_by n (bit_xor a b) ≡ bit_xor (shifted_by n a) (shifted_by n b)
unfolding shifted_by
shifted_by_of_xor zero a b ha hb = refl
shifted_by_of_xor (suc n) a b ha hb =
    ap (shifted_by n) (shifted_of_xor a b ha hb)
    ∙ shifted_by_of_xor n (shifted a) (shifted b) (shifted_bound a) (shifted_bound b)

-- as long as no 1 leaves at the top
pub shifted_by_is_power : (n r : ℕ) → r * 2 ^ n < 0x10000 → shifted_by n r ≡ r * 2 ^ n
unfolding shifted_by
shifted_by_is_power zero r h = sym (mul-one r)
shifted_by_is_power (suc n) r h =
    let doubled : r * 2 ^ suc n ≡ r * 2 * 2 ^ n = ap (λ (p : ℕ). r * p) (pow-succ' 2 n) ∙ sym (mul_assoc r 2 (2 ^ n)) in
    let least : r * 2 * 1 ≤ r * 2 * 2 ^ n = mul-le-mul_left (r * 2) (pow_pos n) in
    cc (shifted_below_top_is_double r (omega arith), shifted_by_is_power n (r * 2) (omega arith))

shifted_by_bound : (n r : ℕ) → r < 0x10000 → shifted_by n r < 0x10000
unfolding shifted_by
shifted_by_bound zero r h = h
shifted_by_bound (suc n) r h = shifted_by_bound n (shifted r) (shifted_bound r)

-- ---- one byte

pub fed_bound : (r byte : ℕ) → fed r byte < 0x10000
unfolding fed shifted_by
fed_bound r byte = shifted_by_bound 7 (shifted (bit_xor r (byte * 256))) (shifted_bound (bit_xor r (byte * 256)))

-- the eight steps of a byte: those of one byte alone, the high byte and the new one added, and the low byte moved up
pub fed_is_top_and_low_byte : (r byte : ℕ) → r < 0x10000 → byte < 256
    → fed r byte ≡ bit_xor (fed 0 (bit_xor (r / 256) byte)) (r % 256 * 256)
unfolding fed
fed_is_top_and_low_byte r byte hr hb =
    let top : bit_xor (r / 256) byte < 256 = xor_lt 8 (r / 256) byte (omega arith) hb in
    ap (shifted_by 8) (ap₂ bit_xor (sym (div-add-mod' r 256)) (sym (add-zero (byte * 256)))
    ∙ xor_block 8 (r / 256) byte (r % 256) 0 (omega arith) (omega arith)
    ∙ ap (λ (low : ℕ). bit_xor (r / 256) byte * 256 + low) (xor_zero_r (r % 256))
    ∙ sym (xor_shifted (bit_xor (r / 256) byte) 8 (r % 256) (omega arith)))
    ∙ shifted_by_of_xor 8 (bit_xor (r / 256) byte * 256) (r % 256) (omega arith) (omega arith)
    ∙ ap (bit_xor (shifted_by 8 (bit_xor (r / 256) byte * 256))) (shifted_by_is_power 8 (r % 256) (omega arith))

zero_fed_zero : fed 0 0 ≡ 0
unfolding fed shifted_by shifted
zero_fed_zero = refl

-- a register that is fed its own high byte
pub fed_own_high_byte_is_low_byte_moved_up : (r : ℕ) → r < 0x10000 → fed r (high_byte r) ≡ low_byte r * 256
fed_own_high_byte_is_low_byte_moved_up r h =
    cc (fed_is_top_and_low_byte r (high_byte r) h (omega arith), xor_self (high_byte r), zero_fed_zero)

-- a register that is fed its own two bytes, high byte first
pub fed_own_bytes_is_zero : (r : ℕ) → r < 0x10000 → fed (fed r (high_byte r)) (low_byte r) ≡ 0
fed_own_bytes_is_zero r h =
    let up : low_byte r * 256 < 0x10000 = omega arith in
    let high : high_byte (low_byte r * 256) ≡ low_byte r = omega arith in
    let low : low_byte (low_byte r * 256) * 256 ≡ 0 = omega arith in
    ap₂ fed (fed_own_high_byte_is_low_byte_moved_up r h) (sym high)
    ∙ fed_own_high_byte_is_low_byte_moved_up (low_byte r * 256) up
    ∙ low

-- The formulas of eight bit steps and of sixteen. Formula and steps are linear over exclusive-or and agree on the single
-- bits, so they agree on every byte and on every two.
use Prim.Native.Nat.{ℕ, ◌*◌, ◌/◌, ◌%◌, ◌^◌, ◌<◌}
use mathlib.Core.Path.{◌≡◌, refl, sym, ap, ap₂, ◌∙◌}
use native.Mathlib.Omega.{arith}
use lib.Bits.{bit_xor, xor_lt, xor_comm}
use Rattle.register.specs.Register.{shifted, shifted_by, fed}
use Rattle.register.proofs.LinearLaws.{Linear, unshifted_is_linear, down_is_linear, up_is_linear, sum_is_linear}
use Rattle.register.proofs.LinearLaws.{chain_is_linear, linear_by_single_bits}
use Rattle.register.proofs.RegisterLaws.{shifted_by_of_xor, shifted_by_is_power, fed_is_top_and_low_byte}

-- ---- the parts of the formulas

-- a polynomial for each bit, within 16 bits
abbrev pub spread : ℕ → ℕ
spread x = bit_xor (bit_xor (x * 2 ^ 12 % 2 ^ 16) (x * 2 ^ 5 % 2 ^ 16)) x

-- the bits that leave at the top: those of a byte, those of two, with what they bring there themselves
abbrev folded : ℕ → ℕ
folded x = bit_xor x (x / 2 ^ 4)

abbrev folded_two : ℕ → ℕ
folded_two x = bit_xor (bit_xor (folded x) (folded x / 2 ^ 8)) (x / 2 ^ 11)

-- what n steps make of bits that are set k places up
abbrev pub moved_out : ℕ → ℕ → ℕ → ℕ
moved_out n k x = shifted_by n (x * 2 ^ k % 2 ^ 16)

pub spread_is_linear : Linear spread
spread_is_linear = sum_is_linear (sum_is_linear (up_is_linear 12) (up_is_linear 5)) unshifted_is_linear

folded_is_linear : Linear folded
folded_is_linear = sum_is_linear unshifted_is_linear (down_is_linear 4)

folded_two_is_linear : Linear folded_two
folded_two_is_linear =
    sum_is_linear (sum_is_linear folded_is_linear (chain_is_linear folded_is_linear (down_is_linear 8)))
    (down_is_linear 11)

pub moved_out_is_linear : (n k : ℕ) → Linear (moved_out n k)
moved_out_is_linear n k =
    record {
      on = λ a b.
          cc (
            (up_is_linear k).on a b,
            shifted_by_of_xor n (a * 2 ^ k % 2 ^ 16) (b * 2 ^ k % 2 ^ 16) (omega arith)
                (omega arith),
          );
    }

-- ---- one byte

byte_moved_out : (x : ℕ) → x < 2 ^ 8 → moved_out 8 8 x ≡ spread (folded x)
unfolding shifted_by shifted
byte_moved_out =
    linear_by_single_bits 8 (moved_out 8 8) (λ (x : ℕ). spread (folded x)) (moved_out_is_linear 8 8)
    (chain_is_linear folded_is_linear spread_is_linear) refl

fed_zero_is_byte_moved_out : (x : ℕ) → x < 256 → fed 0 x ≡ moved_out 8 8 x
unfolding fed
fed_zero_is_byte_moved_out x h = ap (shifted_by 8) (omega arith)

-- the step that the code takes for a byte
pub formula_is_fed : (r byte : ℕ) → r < 0x10000 → byte < 256
    → bit_xor (r * 256 % 0x10000) (spread (folded (bit_xor (r / 256) byte))) ≡ fed r byte
formula_is_fed r byte hr hb =
    let top : ℕ = bit_xor (r / 256) byte in
    let bound = xor_lt 8 (r / 256) byte (omega arith) hb in
    let moved : r * 256 % 0x10000 ≡ r % 256 * 256 = omega arith in
    ap₂ bit_xor moved (sym (fed_zero_is_byte_moved_out top bound ∙ byte_moved_out top bound))
    ∙ xor_comm (r % 256 * 256) (fed 0 top)
    ∙ sym (fed_is_top_and_low_byte r byte hr hb)

-- ---- two bytes

two_moved_out : (x : ℕ) → x < 2 ^ 16 → moved_out 16 0 x ≡ spread (folded_two x)
unfolding shifted_by shifted
two_moved_out =
    linear_by_single_bits 16 (moved_out 16 0) (λ (x : ℕ). spread (folded_two x)) (moved_out_is_linear 16 0)
    (chain_is_linear folded_two_is_linear spread_is_linear) refl

-- the second byte can be added eight steps before its turn, as the low byte
pub fed_twice_is_sixteen_steps : (r high low : ℕ) → r < 0x10000 → high < 256 → low < 256
    → fed (fed r high) low ≡ shifted_by 16 (bit_xor (bit_xor r (high * 256)) low)
unfolding fed shifted_by
fed_twice_is_sixteen_steps r high low hr hh hl =
    let first : ℕ = bit_xor r (high * 256) in
    let bound : bit_xor r (high * 256) < 0x10000 = xor_lt 16 r (high * 256) hr (omega arith) in
    cc (shifted_by_is_power 8 low (omega arith), shifted_by_of_xor 8 first low bound (omega arith))

-- the step that the code takes for two
pub two_byte_formula_is_fed_twice : (r high low : ℕ) → r < 0x10000 → high < 256 → low < 256
    → spread (folded_two (bit_xor (bit_xor r (high * 256 % 0x10000)) low)) ≡ fed (fed r high) low
two_byte_formula_is_fed_twice r high low hr hh hl =
    let top : ℕ = bit_xor (bit_xor r (high * 256)) low in
    let first : bit_xor r (high * 256) < 0x10000 = xor_lt 16 r (high * 256) hr (omega arith) in
    let bound : bit_xor (bit_xor r (high * 256)) low < 0x10000 =
    xor_lt 16 (bit_xor r (high * 256)) low first (omega arith) in
    let whole : high * 256 % 0x10000 ≡ high * 256 = omega arith in
    rw whole (sym (two_moved_out top bound)
    ∙ ap (shifted_by 16) (omega arith)
    ∙ sym (fed_twice_is_sixteen_steps r high low hr hh hl))

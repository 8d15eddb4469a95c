-- The formula of 64 bit steps: it and the steps are linear over exclusive-or and agree on the single bits, so they
-- agree on every eight bytes. Rests on no axiom.
use Prim.Native.Nat.{ℕ, zero, suc, ◌+◌, ◌*◌, ◌/◌, ◌%◌, ◌^◌, ◌<◌}
use mathlib.Core.Path.{◌≡◌, refl, sym, ap, ap₂, ◌∙◌}
use native.Mathlib.Omega.{arith}
use lib.Bits.{bit_xor, xor_lt, xor_comm, xor_mod, xor_shr, xor_shifted, xor_zero_r}
use Rattle.register.specs.Register.{shifted, shifted_by, fed}
use Rattle.register.specs.machine.Bytes.{fed_bytes}
use Rattle.register.proofs.XorLaws.{xor_assoc}
use Rattle.register.proofs.LinearLaws.{Linear, unshifted_is_linear, down_is_linear, low_is_linear, sum_is_linear}
use Rattle.register.proofs.LinearLaws.{chain_is_linear, linear_by_single_bits}
use Rattle.register.proofs.RegisterLaws.{fed_bound}
use Rattle.register.proofs.FormulaLaws.{spread, moved_out, spread_is_linear, moved_out_is_linear}
use Rattle.register.proofs.FormulaLaws.{fed_twice_is_sixteen_steps}

-- ---- the steps

-- 16 steps of the lowest 16 bits
abbrev sixteen : ℕ → ℕ
sixteen x = moved_out 16 0 x

-- 64 steps: each 16 bits are added where those before have moved out
abbrev two : ℕ → ℕ
two t = sixteen (t / 2 ^ 48)

abbrev four : ℕ → ℕ
four t = sixteen (bit_xor (two t) (t / 2 ^ 32))

abbrev six : ℕ → ℕ
six t = sixteen (bit_xor (four t) (t / 2 ^ 16))

abbrev eight : ℕ → ℕ
eight t = sixteen (bit_xor (six t) t)

sixteen_is_linear : Linear sixteen
sixteen_is_linear = moved_out_is_linear 16 0

two_is_linear : Linear two
two_is_linear = chain_is_linear (down_is_linear 48) sixteen_is_linear

four_is_linear : Linear four
four_is_linear = chain_is_linear (sum_is_linear two_is_linear (down_is_linear 32)) sixteen_is_linear

six_is_linear : Linear six
six_is_linear = chain_is_linear (sum_is_linear four_is_linear (down_is_linear 16)) sixteen_is_linear

eight_is_linear : Linear eight
eight_is_linear = chain_is_linear (sum_is_linear six_is_linear unshifted_is_linear) sixteen_is_linear

-- ---- the formula

abbrev first : ℕ → ℕ
first x = bit_xor (bit_xor (bit_xor x (x / 2 ^ 4)) (x / 2 ^ 11)) (x / 2 ^ 16)

abbrev second : ℕ → ℕ
second x = bit_xor (bit_xor (bit_xor x (x / 2 ^ 8)) (x / 2 ^ 22)) (x / 2 ^ 32)

abbrev third : ℕ → ℕ
third x = bit_xor (bit_xor x (x / 2 ^ 16)) (x / 2 ^ 44)

abbrev fourth : ℕ → ℕ
fourth x = bit_xor x (x / 2 ^ 32) % 2 ^ 16

abbrev pub formula : ℕ → ℕ
formula x = spread (fourth (third (second (first x))))

first_is_linear : Linear first
first_is_linear =
    sum_is_linear (sum_is_linear (sum_is_linear unshifted_is_linear (down_is_linear 4)) (down_is_linear 11))
    (down_is_linear 16)

second_is_linear : Linear second
second_is_linear =
    sum_is_linear (sum_is_linear (sum_is_linear unshifted_is_linear (down_is_linear 8)) (down_is_linear 22))
    (down_is_linear 32)

third_is_linear : Linear third
third_is_linear = sum_is_linear (sum_is_linear unshifted_is_linear (down_is_linear 16)) (down_is_linear 44)

fourth_is_linear : Linear fourth
fourth_is_linear = chain_is_linear (sum_is_linear unshifted_is_linear (down_is_linear 32)) low_is_linear

formula_is_linear : Linear formula
formula_is_linear =
    chain_is_linear (chain_is_linear (chain_is_linear (chain_is_linear first_is_linear second_is_linear)
    third_is_linear) fourth_is_linear) spread_is_linear

eight_moved_out : (t : ℕ) → t < 2 ^ 64 → eight t ≡ formula t
unfolding shifted_by shifted
eight_moved_out = linear_by_single_bits 64 eight formula eight_is_linear formula_is_linear refl

-- ---- bytes, by 16 bits at a time

fed_bytes_bound : (n r e : ℕ) → r < 2 ^ 16 → fed_bytes n r e < 2 ^ 16
unfolding fed_bytes
fed_bytes_bound zero r e h = h
fed_bytes_bound (suc n) r e h = fed_bound (fed_bytes n r (e / 256)) (e % 256)

-- only the lowest 16 bits count
sixteen_of_low : (s x y : ℕ) → x % 2 ^ 16 ≡ y % 2 ^ 16 → sixteen (bit_xor s x) ≡ sixteen (bit_xor s y)
sixteen_of_low s x y same =
    let low : (z : ℕ) → bit_xor s z * 2 ^ 0 % 2 ^ 16 ≡ bit_xor (s % 2 ^ 16) (z % 2 ^ 16) = λ z.
    let e : bit_xor s z * 2 ^ 0 % 2 ^ 16 ≡ bit_xor s z % 2 ^ 16 = omega arith in e ∙ xor_mod s z 16 in
    ap (shifted_by 16) (low x ∙ ap (bit_xor (s % 2 ^ 16)) same ∙ sym (low y))

two_bytes_more : (n r e : ℕ) → r < 2 ^ 16
    → fed_bytes (suc (suc n)) r e ≡ sixteen (bit_xor (fed_bytes n r (e / 2 ^ 16)) e)
unfolding fed_bytes
two_bytes_more n r e h =
    let s : ℕ = fed_bytes n r (e / 2 ^ 16) in
    let high : ℕ = e / 256 % 256 in
    let low : ℕ = e % 256 in
    let place : e / 256 / 256 ≡ e / 2 ^ 16 = omega arith in
    let bound : s < 2 ^ 16 = fed_bytes_bound n r (e / 2 ^ 16) h in
    let own : s % 2 ^ 16 ≡ s = omega arith in
    let bits : high * 2 ^ 8 + low ≡ e % 2 ^ 16 = omega arith in
    let one : bit_xor s e * 2 ^ 0 % 2 ^ 16 ≡ bit_xor s e % 2 ^ 16 = omega arith in
    let both : bit_xor (bit_xor s (high * 256)) low ≡ bit_xor s e * 2 ^ 0 % 2 ^ 16 =
    xor_assoc s (high * 256) low
    ∙ ap (bit_xor s) (xor_shifted high 8 low (omega arith) ∙ bits)
    ∙ sym (one ∙ xor_mod s e 16 ∙ ap (λ (z : ℕ). bit_xor z (e % 2 ^ 16)) own) in
    ap (λ (z : ℕ). fed (fed (fed_bytes n r z) high) low) place
    ∙ fed_twice_is_sixteen_steps s high low bound (omega arith) (omega arith)
    ∙ ap (shifted_by 16) both

module _ (r e : ℕ) (small : r < 2 ^ 16) where
  -- the register is added above
  abbrev added : ℕ
  added = bit_xor e (r * 2 ^ 48)

  low_32 : added / 2 ^ 32 % 2 ^ 16 ≡ e / 2 ^ 32 % 2 ^ 16
  low_32 =
      let none : r * 2 ^ 48 / 2 ^ 32 % 2 ^ 16 ≡ 0 = omega arith in
      ap (λ (z : ℕ). z % 2 ^ 16) (xor_shr e (r * 2 ^ 48) 32)
      ∙ xor_mod (e / 2 ^ 32) (r * 2 ^ 48 / 2 ^ 32) 16
      ∙ ap (bit_xor (e / 2 ^ 32 % 2 ^ 16)) none
      ∙ xor_zero_r (e / 2 ^ 32 % 2 ^ 16)

  low_16 : added / 2 ^ 16 % 2 ^ 16 ≡ e / 2 ^ 16 % 2 ^ 16
  low_16 =
      let none : r * 2 ^ 48 / 2 ^ 16 % 2 ^ 16 ≡ 0 = omega arith in
      ap (λ (z : ℕ). z % 2 ^ 16) (xor_shr e (r * 2 ^ 48) 16)
      ∙ xor_mod (e / 2 ^ 16) (r * 2 ^ 48 / 2 ^ 16) 16
      ∙ ap (bit_xor (e / 2 ^ 16 % 2 ^ 16)) none
      ∙ xor_zero_r (e / 2 ^ 16 % 2 ^ 16)

  low : added % 2 ^ 16 ≡ e % 2 ^ 16
  low =
      let none : r * 2 ^ 48 % 2 ^ 16 ≡ 0 = omega arith in
      xor_mod e (r * 2 ^ 48) 16 ∙ ap (bit_xor (e % 2 ^ 16)) none ∙ xor_zero_r (e % 2 ^ 16)

  two_fed : fed_bytes 2 r (e / 2 ^ 48) ≡ two added
  unfolding fed_bytes
  two_fed =
      let own : r * 2 ^ 48 / 2 ^ 48 ≡ r = omega arith in
      two_bytes_more 0 r (e / 2 ^ 48) small
      ∙ ap sixteen (xor_comm r (e / 2 ^ 48)
      ∙ sym (xor_shr e (r * 2 ^ 48) 48 ∙ ap (bit_xor (e / 2 ^ 48)) own))

  more : (n m k : ℕ) (f : ℕ → ℕ) → e / 2 ^ k / 2 ^ 16 ≡ e / 2 ^ m → fed_bytes n r (e / 2 ^ m) ≡ f added
      → added / 2 ^ k % 2 ^ 16 ≡ e / 2 ^ k % 2 ^ 16
      → fed_bytes (suc (suc n)) r (e / 2 ^ k) ≡ sixteen (bit_xor (f added) (added / 2 ^ k))
  more n m k f place before same =
      two_bytes_more n r (e / 2 ^ k) small
      ∙ ap (λ (z : ℕ). sixteen (bit_xor z (e / 2 ^ k))) (ap (fed_bytes n r) place ∙ before)
      ∙ sixteen_of_low (f added) (e / 2 ^ k) (added / 2 ^ k) (sym same)

  eight_fed : fed_bytes 8 r e ≡ eight added
  eight_fed =
      let fourth = more 2 48 32 two (omega arith) two_fed low_32 in
      let sixth = more 4 32 16 four (omega arith) fourth low_16 in
      two_bytes_more 6 r e small
      ∙ ap (λ (z : ℕ). sixteen (bit_xor z e)) sixth
      ∙ sixteen_of_low (six added) e added (sym low)

-- the step that the code takes for eight
pub eight_byte_formula_is_fed
    : (r e : ℕ) → r < 2 ^ 16 → e < 2 ^ 64 → formula (bit_xor e (r * 2 ^ 48)) ≡ fed_bytes 8 r e
eight_byte_formula_is_fed r e hr he =
    sym (eight_fed r e hr ∙ eight_moved_out (bit_xor e (r * 2 ^ 48)) (xor_lt 64 e (r * 2 ^ 48) he (omega arith)))

pub fed_no_bytes : (r e : ℕ) → fed_bytes 0 r e ≡ r
unfolding fed_bytes
fed_no_bytes r e = refl

-- a byte more
pub fed_bytes_and_one : (n r x w : ℕ) → w < 256 → fed_bytes (suc n) r (x * 256 + w) ≡ fed (fed_bytes n r x) w
unfolding fed_bytes
fed_bytes_and_one n r x w h =
    let above : (x * 256 + w) / 256 ≡ x = omega arith in
    let own : (x * 256 + w) % 256 ≡ w = omega arith in
    ap₂ (λ (y b : ℕ). fed (fed_bytes n r y) b) above own

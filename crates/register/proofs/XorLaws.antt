-- Laws of exclusive-or that the library lacks: it works digit by digit, and on single digits it is computed.
use Prim.Native.Nat.{ℕ, zero, suc, ◌+◌, ◌*◌, ◌/◌, ◌%◌, ◌^◌, ◌<◌}
use mathlib.Core.Path.{◌≡◌, refl, sym, ap₂, ◌∙◌}
use native.Mathlib.Nat.{div-add-mod', add-zero, zero-mul}
use native.Mathlib.Omega.{arith}
use lib.Arith.{bin_ind}
use lib.Pow.{pow_pos}
use lib.Bits.{bit_xor, xor_shr, xor_mod, xor_comm, xor_block, xor_self, xor_zero_r}

-- the lowest digit apart
pub xor_halves : (a b : ℕ) → bit_xor a b ≡ bit_xor (a / 2) (b / 2) * 2 + bit_xor (a % 2) (b % 2)
xor_halves a b = sym (div-add-mod' (bit_xor a b) 2) ∙ ap₂ (λ (q r : ℕ). q * 2 + r) (xor_shr a b 1) (xor_mod a b 1)

-- a digit is 0 or 1
pub by_digit : (P : ℕ → Type 0) → P 0 → P 1 → (x : ℕ) → x < 2 → P x
by_digit P none one zero h = none
by_digit P none one (suc zero) h = one
by_digit P none one (suc (suc x)) h = absurd (omega arith)

xor_assoc_of_digits : (x y z : ℕ) → x < 2 → y < 2 → z < 2 → bit_xor (bit_xor x y) z ≡ bit_xor x (bit_xor y z)
xor_assoc_of_digits x y z hx hy hz =
    by_digit (λ (x : ℕ). bit_xor (bit_xor x y) z ≡ bit_xor x (bit_xor y z)) refl
    (by_digit (λ (y : ℕ). bit_xor (bit_xor 1 y) z ≡ bit_xor 1 (bit_xor y z)) refl
    (by_digit (λ (z : ℕ). bit_xor (bit_xor 1 1) z ≡ bit_xor 1 (bit_xor 1 z)) refl refl z hz) y hy) x hx

pub xor_assoc : (a b c : ℕ) → bit_xor (bit_xor a b) c ≡ bit_xor a (bit_xor b c)
xor_assoc a =
    bin_ind (λ (n : ℕ). (b c : ℕ) → bit_xor (bit_xor n b) c ≡ bit_xor n (bit_xor b c)) (λ b c. refl) (λ n ih b c.
    xor_halves (bit_xor n b) c
    ∙ ap₂ (λ (q r : ℕ). bit_xor q (c / 2) * 2 + bit_xor r (c % 2)) (xor_shr n b 1) (xor_mod n b 1)
    ∙ ap₂ (λ (q r : ℕ). q * 2 + r) (ih (b / 2) (c / 2))
    (xor_assoc_of_digits (n % 2) (b % 2) (c % 2) (omega arith) (omega arith) (omega arith))
    ∙ ap₂ (λ (q r : ℕ). bit_xor (n / 2) q * 2 + bit_xor (n % 2) r) (sym (xor_shr b c 1)) (sym (xor_mod b c 1))
    ∙ sym (xor_halves n (bit_xor b c))) a

-- two sums of two terms, added
pub xor_exchange : (a b c d : ℕ) → bit_xor (bit_xor a b) (bit_xor c d) ≡ bit_xor (bit_xor a c) (bit_xor b d)
xor_exchange a b c d =
    cc (xor_assoc a b (bit_xor c d), xor_assoc b c d, xor_comm b c, xor_assoc c b d, xor_assoc a c (bit_xor b d))

-- a shift passes through
pub xor_up : (k a b : ℕ) → bit_xor a b * 2 ^ k ≡ bit_xor (a * 2 ^ k) (b * 2 ^ k)
xor_up k a b =
    sym (add-zero (bit_xor a b * 2 ^ k))
    ∙ sym (xor_block k a b 0 0 (pow_pos k) (pow_pos k))
    ∙ ap₂ bit_xor (add-zero (a * 2 ^ k)) (add-zero (b * 2 ^ k))

-- what a digit switches on
pub xor_switch : (p x y : ℕ) → x < 2 → y < 2 → bit_xor x y * p ≡ bit_xor (x * p) (y * p)
xor_switch p x y hx hy =
    by_digit (λ (x : ℕ). bit_xor x y * p ≡ bit_xor (x * p) (y * p)) (cc (zero-mul p))
    (by_digit (λ (y : ℕ). bit_xor 1 y * p ≡ bit_xor (1 * p) (y * p)) (cc (xor_zero_r (1 * p), zero-mul p))
    (zero-mul p ∙ sym (xor_self (1 * p))) y hy) x hx

-- Functions that are linear over exclusive-or: shifts and their sums are, and one of them is told by what it makes of
-- single bits, since every number is a sum of those.
use Prim.Native.Nat.{ℕ, zero, suc, ◌*◌, ◌/◌, ◌%◌, ◌^◌, ◌<◌}
use mathlib.Core.Path.{◌≡◌, refl, sym, ap, ap₂, ◌∙◌}
use mathlib.Core.List.{List, [], ◌∷◌}
use native.Mathlib.Nat.{div-add-mod', pow-suc}
use native.Mathlib.Omega.{arith}
use lib.Arith.{lt-one}
use lib.Bits.{bit_xor, xor_shr, xor_mod, xor_shifted, xor_self}
use Rattle.register.proofs.XorLaws.{by_digit, xor_up, xor_exchange}

pub record Linear (f : ℕ → ℕ) : Type 0 where
  pub on : (a b : ℕ) → f (bit_xor a b) ≡ bit_xor (f a) (f b)

-- ---- shifts and their sums

pub unshifted_is_linear : Linear (λ (x : ℕ). x)
unshifted_is_linear = record { on = λ a b. refl }

pub down_is_linear : (k : ℕ) → Linear (λ (x : ℕ). x / 2 ^ k)
down_is_linear k = record { on = λ a b. xor_shr a b k }

-- up within 16 bits
pub up_is_linear : (k : ℕ) → Linear (λ (x : ℕ). x * 2 ^ k % 2 ^ 16)
up_is_linear k = record { on = λ a b. cc (xor_up k a b, xor_mod (a * 2 ^ k) (b * 2 ^ k) 16) }

pub low_is_linear : Linear (λ (x : ℕ). x % 2 ^ 16)
low_is_linear = record { on = λ a b. xor_mod a b 16 }

pub sum_is_linear : {f g : ℕ → ℕ} → Linear f → Linear g → Linear (λ (x : ℕ). bit_xor (f x) (g x))
sum_is_linear {f} {g} hf hg =
    record { on = λ a b. ap₂ bit_xor (hf.on a b) (hg.on a b) ∙ xor_exchange (f a) (f b) (g a) (g b) }

pub chain_is_linear : {f g : ℕ → ℕ} → Linear f → Linear g → Linear (λ (x : ℕ). g (f x))
chain_is_linear {f} {g} hf hg = record { on = λ a b. ap g (hf.on a b) ∙ hg.on (f a) (f b) }

doubled_is_linear : Linear (λ (x : ℕ). x * 2)
doubled_is_linear = record { on = xor_up 1 }

-- ---- single bits

-- what a function makes of the n lowest single bits
abbrev pub on_bits : ℕ → (ℕ → ℕ) → List ℕ
on_bits zero f = []
on_bits (suc n) f = f 1 ∷ on_bits n (λ (x : ℕ). f (x * 2))

module _ (f : ℕ → ℕ) (hf : Linear f) where
  linear_of_zero : f 0 ≡ 0
  linear_of_zero = hf.on 0 0 ∙ xor_self (f 0)

  -- the lowest bit apart
  linear_by_halves : (a : ℕ) → f a ≡ bit_xor (f (a / 2 * 2)) (f (a % 2))
  linear_by_halves a =
      ap f (sym (xor_shifted (a / 2) 1 (a % 2) (omega arith) ∙ div-add-mod' a 2)) ∙ hf.on (a / 2 * 2) (a % 2)

pub linear_by_single_bits : (n : ℕ) (f g : ℕ → ℕ) → Linear f → Linear g → on_bits n f ≡ on_bits n g
    → (a : ℕ) → a < 2 ^ n → f a ≡ g a
linear_by_single_bits zero f g hf hg bits a h =
    ap f (lt-one h) ∙ linear_of_zero f hf ∙ sym (ap g (lt-one h) ∙ linear_of_zero g hg)
linear_by_single_bits (suc n) f g hf hg bits a h =
    let lowest : f 1 ≡ g 1 = cc in
    let others : on_bits n (λ (x : ℕ). f (x * 2)) ≡ on_bits n (λ (x : ℕ). g (x * 2)) = cc in
    let half : a / 2 < 2 ^ n = omega (arith, pow-suc 2 n) in
    let above : f (a / 2 * 2) ≡ g (a / 2 * 2) =
    linear_by_single_bits n (λ (x : ℕ). f (x * 2)) (λ (x : ℕ). g (x * 2)) (chain_is_linear doubled_is_linear hf)
    (chain_is_linear doubled_is_linear hg) others (a / 2) half in
    let digit : f (a % 2) ≡ g (a % 2) =
    by_digit (λ (d : ℕ). f d ≡ g d) (linear_of_zero f hf ∙ sym (linear_of_zero g hg)) lowest (a % 2) (omega arith) in
    cc (linear_by_halves f hf a, linear_by_halves g hg a)

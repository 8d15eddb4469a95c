-- What a value's numbers say of its state, and what the register does with no bit: each by the test that decides it.
use Prim.Native.Nat.{ℕ, zero, suc}
use mathlib.Core.Path.{◌≡◌, refl, sym}
use mathlib.Core.Bool.{true, false, cond}
use mathlib.Core.List.{[], ◌∷◌, tail}
use native.Mathlib.Omega.{arith}
use lib.Dec.{eqb, ltb}
use borrow.Author.Tests.{ne_eqb, eqb-true, le-ltb}
use Rattle.fifo.specs.State.{held_items}
use Rattle.fifo.specs.Sides.{first_bit}

module _ (held a b : ℕ) where
  pub items_of_none : held ≡ 0 → held_items held a b ≡ []
  unfolding held_items
  items_of_none h = rw h

  pub items_of_two : (held ≡ 0 → ⊥) → (held ≡ 1 → ⊥) → held_items held a b ≡ a ∷ b ∷ []
  unfolding held_items
  items_of_two h k = rw (ne_eqb held 0 h, ne_eqb held 1 k)

  pub items_of_some : (held ≡ 0 → ⊥) → held_items held a b ≡ a ∷ tail (held_items held a b)
  unfolding held_items
  items_of_some h =
      rw (ne_eqb held 0 h)
      (elim (eqb held 1) as (λ t. let some = cond t (a ∷ []) (a ∷ b ∷ []) in some ≡ a ∷ tail some)
      [ true ↦ refl | false ↦ refl ])

-- the first item is left out
pub rest_of_items : (held a b : ℕ) → tail (held_items held a b) ≡ cond (ltb held 2) [] (b ∷ [])
unfolding held_items
rest_of_items zero a b = refl
rest_of_items (suc zero) a b = refl
rest_of_items (suc (suc held)) a b =
    let n = suc (suc held) in
    rw (ne_eqb n 0 (λ e. omega arith), ne_eqb n 1 (λ e. omega arith), le-ltb n 2 (omega arith))

-- a bit of 0 sets nothing
pub no_bit_keeps_register : (e : ℕ) → first_bit e 0 ≡ e
unfolding first_bit
no_bit_keeps_register e =
    (elim (eqb e 0) as (λ t. eqb e 0 ≡ t → cond t 0 e ≡ e)
    [ true ↦ λ h. sym (eqb-true e 0 h) | false ↦ λ h. refl ]) refl

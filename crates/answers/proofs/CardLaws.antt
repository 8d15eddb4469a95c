-- Why limits that are turned into numbers one by one are those turned all at once: one more is stored behind those
-- before it. Rests on no axiom.
use Prim.Native.Nat.{ℕ, ◌+◌, ◌≤◌, ◌<◌}
use mathlib.Core.Path.{◌≡◌, sym, ap, ◌∙◌}
use mathlib.Core.List.{List, [], ◌∷◌, map, map-append}
use native.Mathlib.Numerals.{add-one}
use native.Mathlib.Nat.{le_of_lt, zero-add}
use native.Mathlib.Omega.{arith}
use lib.ListN.{length, get_or, take, set, length-map}
use lib.Seq.{take-suc, length-take-le}
use Rattle.lists.specs.Filled.{filled, stored_at}
use Rattle.lists.proofs.StoreLaws.{stored_one_more, stored_at_front_fills}

module _ {A B : Type 0} (f : A → B) (s : List A) (l : List B) (n : ℕ) where
  mapped_length : n ≤ length s → length (map f (take n s)) ≡ n
  mapped_length h = length-map (take n s) f ∙ length-take-le n s h

  pub stored_mapped
      : (d : A)
      → n < length s
      → set (stored_at l 0 (map f (take n s))) n (f (get_or s n d)) ≡ stored_at l 0 (map f (take (n + 1) s))
  stored_mapped d h =
      stored_one_more (map f (take n s)) l 0 n (f (get_or s n d)) (sym (zero-add _ ∙ mapped_length (le_of_lt h)))
      ∙ ap (stored_at l 0)
      (sym (map-append f (take n s) (get_or s n d ∷ []))
      ∙ ap (map f) (sym (take-suc s n d h) ∙ ap (λ (k : ℕ). take k s) (sym (add-one n))))

  pub mapped_fills
      : n ≤ length s → n ≤ length l → stored_at l 0 (map f (take n s)) ≡ filled (map f (take n s)) l
  mapped_fills h room = stored_at_front_fills (map f (take n s)) l (omega (arith, mapped_length h, room))

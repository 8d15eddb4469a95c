-- How a fact about the letters of written bytes is shown for every list at once: it holds of what closes the list, and
-- each bit of a data byte and each mark's gap keeps it. A byte's letters are decided by eight tests, so a lemma over
-- eight Bools covers every data byte; of the mark bytes A1 is 1 0 1, the gap's four bits and 1, and C2 is 1 1, the
-- gap's four bits and 1 0.
use Prim.Native.Nat.{ℕ, ◌+◌, ◌/◌, ◌%◌}
use mathlib.Core.Path.{◌≡◌, refl}
use mathlib.Core.Bool.{Bool, true, false, cond, ◌||◌}
use mathlib.Core.List.{List, [], ◌∷◌, ◌++◌, append_assoc}
use lib.Dec.{eqb}
use borrow.Author.Tests.{eqb-true}
use Rattle.items.specs.Item.{is_mark}
use Rattle.symbols.specs.Bits.{Bit, O, I, G, byte_bits, mark_bits, with_gaps, written_bits, all_bits}

-- the letter of a bit that begins no gap
abbrev pub letter : Bool → Bit
letter t = cond t I O

-- P t bs speaks of the letters bs after the bit t
module _
    (P : Bool → List Bit → Type 0) (data_bit : (t : Bool) (bs : List Bit) → P t bs → (u : Bool) → P u (letter t ∷ bs))
    (mark_gap : (bs : List Bit) → P false bs → P true (O ∷ G ∷ O ∷ O ∷ bs))
  where
    data_byte : (w : ℕ) (bs : List Bit) → ((t : Bool) → P t bs) → (u : Bool) → P u (byte_bits w ++ bs)
    unfolding byte_bits
    data_byte w bs p =
        data_bit (eqb (w / 128 % 2) 1) _
        (data_bit (eqb (w / 64 % 2) 1) _
        (data_bit (eqb (w / 32 % 2) 1) _
        (data_bit (eqb (w / 16 % 2) 1) _
        (data_bit (eqb (w / 8 % 2) 1) _
        (data_bit (eqb (w / 4 % 2) 1) _ (data_bit (eqb (w / 2 % 2) 1) _ (data_bit (eqb (w / 1 % 2) 1) bs (p _) _) _)
        _) _) _) _) _)

    mark_a1 : (bs : List Bit) → P true bs → (u : Bool) → P u (mark_bits 0xa1 ++ bs)
    unfolding mark_bits with_gaps byte_bits
    mark_a1 bs p =
        data_bit true _ (data_bit false _ (data_bit true _ (mark_gap _ (data_bit true bs p false)) false) true)

    mark_c2 : (bs : List Bit) → P false bs → (u : Bool) → P u (mark_bits 0xc2 ++ bs)
    unfolding mark_bits with_gaps byte_bits
    mark_c2 bs p =
        data_bit true _ (data_bit true _ (mark_gap _ (data_bit true _ (data_bit false bs p true) false)) true)

    mark_byte : (x y : Bool) (w : ℕ) (bs : List Bit)
        → eqb w (256 + 0xa1) ≡ x → eqb w (256 + 0xc2) ≡ y
        → ((t : Bool) → P t bs) → (u : Bool) → P u (cond (x || y) (mark_bits (w % 256)) (byte_bits w) ++ bs)
    mark_byte true y w bs ex ey p u = rw (eqb-true w (256 + 0xa1) ex) (mark_a1 bs (p true) u)
    mark_byte false true w bs ex ey p u = rw (eqb-true w (256 + 0xc2) ey) (mark_c2 bs (p false) u)
    mark_byte false false w bs ex ey p u = data_byte w bs p u

    written_byte : (w : ℕ) (bs : List Bit) → ((t : Bool) → P t bs) → (u : Bool) → P u (written_bits w ++ bs)
    unfolding written_bits is_mark
    written_byte w bs = mark_byte _ _ w bs refl refl

    pub every_list_has_it
        : (end : List Bit) → ((t : Bool) → P t end) → (ws : List ℕ) (u : Bool) → P u (all_bits ws ++ end)
    unfolding all_bits
    every_list_has_it end p [] u = p u
    every_list_has_it end p (w ∷ ws) u =
        rw append_assoc (written_byte w (all_bits ws ++ end) (every_list_has_it end p ws) u)

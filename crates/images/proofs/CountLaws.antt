-- The ones of a word are the distances that end in it, and so the cells; summed along a list they are the cells of the
-- list, but for those that the closing 0s end. Rests on no axiom.
use Prim.Native.Nat.{ℕ, suc, ◌+◌, ◌%◌}
use mathlib.Core.Path.{◌≡◌, refl, sym, ap, ◌∙◌}
use mathlib.Core.Bool.{true, false, cond}
use mathlib.Core.List.{List, [], ◌∷◌, ◌++◌, append_assoc}
use native.Mathlib.Nat.{zero-add}
use native.Mathlib.Omega.{arith}
use lib.Count.{ones, ones_in}
use lib.Dec.{T, eqb}
use lib.ListN.{length}
use Rattle.lists.specs.Place.{everywhere}
use Rattle.items.specs.Item.{is_byte}
use Rattle.symbols.specs.Bits.{Bit, O, I, G, written_bits, all_bits, bits_of}
use Rattle.symbols.specs.Cells.{symbols_from, symbols_of, cells_of, written_symbols, written_cells}
use Rattle.symbols.proofs.CellLaws.{sound}
use Rattle.symbols.proofs.HalfCells.{clock_after, data_of, cells_after, ones_among}
use Rattle.symbols.proofs.HalfLaws.{cells_after_append}
use Rattle.symbols.proofs.NumberLaws.{ones_of_number}
use Rattle.words.specs.Words.{clock_bit, word_of, last_bit}
use Rattle.images.specs.Distances.{distances_from}
use Rattle.images.proofs.DistanceLaws.{units_at, distances_of_letters, bytes_are_sound}
use Rattle.images.proofs.WordLaws.{Kept, all_kept}

-- ---- ones among half cells

ones_of_append : (xs ys : List Bit) → ones_among (xs ++ ys) ≡ ones_among xs + ones_among ys
unfolding ones_among
ones_of_append [] ys = sym (zero-add (ones_among ys))
ones_of_append (x ∷ xs) ys = let rest = ones_of_append xs ys in omega arith

-- each ends a distance, wherever the last one stood
distances_count : (n : ℕ) (bs : List Bit) → length (distances_from n bs) ≡ ones_among bs
unfolding distances_from ones_among
distances_count n [] = refl
distances_count n (O ∷ bs) = let rest = distances_count (suc n) bs in omega arith
distances_count n (I ∷ bs) = let rest = distances_count 1 bs in omega arith
distances_count n (G ∷ bs) = let rest = distances_count (suc n) bs in omega arith

-- ---- a word

pub ones_of_word : (b : Bit) (w : ℕ) → Kept b w → ones (word_of b w) ≡ ones_among (cells_after b (written_bits w))
unfolding ones ones_in
ones_of_word b w kept =
    ap ones kept.number ∙ ones_of_number 0 (cells_after b (written_bits w)) ∙ zero-add _

-- where the half cells stand so that the open cell has 2 units
start_after : Bit → ℕ
start_after O = 2
start_after I = 1
start_after G = 2

two_units : (b : Bit) → units_at b (start_after b) ≡ 2
unfolding units_at start_after
two_units O = refl
two_units I = refl
two_units G = refl

pub cells_count : (b : Bit) (bs : List Bit) → T (sound b bs)
    → ones_among (cells_after b bs) ≡ length (cells_of (symbols_from b bs))
unfolding cells_of
cells_count b bs t =
    sym (distances_count (start_after b) (cells_after b bs))
    ∙ ap length (rw (two_units b) at (distances_of_letters b bs (start_after b) t))

-- ---- a list

-- the cells that bytes and the closing 0s end, after a data bit
unfoldable pub cells_left : Bit → List ℕ → ℕ
cells_left b ws = ones_among (cells_after b (all_bits ws ++ (O ∷ O ∷ [])))

pub cells_left_of_none : (w : ℕ) → cells_left (last_bit w) [] ≡ cond (eqb (w % 2) 1) 1 2
unfolding cells_left cells_after clock_after clock_bit data_of all_bits ones_among last_bit
cells_left_of_none w =
    elim (eqb (w % 2) 1) as (λ t. cells_left (cond t I O) [] ≡ cond t 1 2) [ true ↦ refl | false ↦ refl ]

pub cells_left_of_byte : (b : Bit) (w : ℕ) (ws : List ℕ) → Kept b w
    → cells_left b (w ∷ ws) ≡ ones (word_of b w) + cells_left (last_bit w) ws
unfolding cells_left all_bits
cells_left_of_byte b w ws kept =
    rw (
      append_assoc (written_bits w),
      cells_after_append b (written_bits w),
      ones_of_append (cells_after b (written_bits w)),
      ones_of_word b w kept,
      kept.last_letter,
    )

pub cells_left_at_start : (ws : List ℕ) → everywhere is_byte ws ≡ true → cells_left O ws ≡ length (written_cells ws)
unfolding cells_left written_cells written_symbols bits_of symbols_of
cells_left_at_start ws bytes = cells_count O (all_bits ws ++ (O ∷ O ∷ [])) (bytes_are_sound (all_kept O ws refl bytes))

-- Request (v): the half cells of an image, and the distances between its ones. No lemmas here.
use Rattle.std.specs.Prelude.{ℕ, suc, ◌/◌, ◌%◌, cond, List, [], ◌∷◌, ◌++◌}
use Rattle.symbols.specs.Bits.{Bit, O, I, is_one, byte_bits, last_of}
use Rattle.words.specs.Words.{clock_bit}

-- a word's half cells, most significant first
unfoldable pub half_cells : ℕ → List Bit
half_cells word = byte_bits (word / 256) ++ byte_bits (word % 256)

unfoldable pub image_cells : List ℕ → List Bit
image_cells [] = []
image_cells (word ∷ words) = half_cells word ++ image_cells words

-- 1 0 set before the image, and a clock bit for a 0, then 0 1, set after it
unfoldable pub framed : List ℕ → List Bit
framed words = I ∷ O ∷ image_cells words ++ (clock_bit (last_of O (image_cells words)) O ∷ O ∷ I ∷ [])

-- the distances that end in the half cells given, of which the first stands n after the last one
unfoldable pub distances_from : ℕ → List Bit → List ℕ
distances_from n [] = []
distances_from n (b ∷ bs) = cond (is_one b) (n ∷ distances_from 1 bs) (distances_from (suc n) bs)

-- the distances between ones; what stands before the first one belongs to none
unfoldable pub distances : List Bit → List ℕ
distances [] = []
distances (b ∷ bs) = cond (is_one b) (distances_from 1 bs) (distances bs)

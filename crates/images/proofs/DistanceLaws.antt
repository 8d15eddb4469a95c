-- The distances between ones are the cells: after a 0 the next half cell is as far from the last one as the open cell
-- has units, after a 1 one less; each pair of letters keeps that. Rests on no axiom.
use Prim.Native.Nat.{ℕ, suc}
use mathlib.Core.Path.{◌≡◌, refl, sym, ap, ap₂, ◌∙◌}
use mathlib.Core.Bool.{true, false, cond, true≢false}
use mathlib.Core.List.{List, [], ◌∷◌, ◌++◌, append_assoc}
use lib.Dec.{T}
use Rattle.lists.specs.Place.{everywhere}
use Rattle.items.specs.Item.{is_byte}
use Rattle.symbols.specs.Bits.{Bit, O, I, G, is_one, last_of, written_bits, all_bits, bits_of}
use Rattle.symbols.specs.Bytes.{is_gap}
use Rattle.symbols.specs.Cells.{pair_symbols, symbols_from, symbols_of, cells_from, cells_of, written_symbols, written_cells}
use Rattle.symbols.proofs.CellLaws.{last_append, follows, sound, sound_append}
use Rattle.symbols.proofs.HalfCells.{clock_after, data_of, cells_after}
use Rattle.symbols.proofs.HalfLaws.{cells_after_append}
use Rattle.words.specs.Words.{clock_bit, word_of, last_bit}
use Rattle.images.specs.Image.{image_from, image_of}
use Rattle.images.specs.Distances.{half_cells, image_cells, framed, distances_from, distances}
use Rattle.images.proofs.WordLaws.{word_is_kept, last_bit_is_data, AllKept, end, more, all_kept}

-- ---- letters

-- the units of the open cell after a letter, where the next half cell stands n after the last one
unfoldable pub units_at : Bit → ℕ → ℕ
units_at O n = n
units_at I n = suc n
units_at G n = n

pub distances_of_letters
    : (b : Bit) (bs : List Bit) (n : ℕ)
    → T (sound b bs)
    → distances_from n (cells_after b bs) ≡ cells_from (units_at b n) (symbols_from b bs)
unfolding distances_from cells_after clock_after clock_bit data_of units_at symbols_from pair_symbols cells_from sound follows
distances_of_letters b [] n t = refl
distances_of_letters O (O ∷ bs) n t = ap (◌∷◌ n) (distances_of_letters O bs 2 t)
distances_of_letters O (I ∷ bs) n t = ap (◌∷◌ (suc n)) (distances_of_letters I bs 1 t)
distances_of_letters O (G ∷ bs) n t = ap (◌∷◌ n) (distances_of_letters G bs 2 t)
distances_of_letters I (O ∷ bs) n t = distances_of_letters O bs (suc (suc n)) t
distances_of_letters I (I ∷ bs) n t = ap (◌∷◌ (suc n)) (distances_of_letters I bs 1 t)
distances_of_letters I (G ∷ bs) n t = absurd t
distances_of_letters G (O ∷ bs) n t = distances_of_letters O bs (suc (suc n)) t
distances_of_letters G (I ∷ bs) n t = absurd t
distances_of_letters G (G ∷ bs) n t = absurd t

last_half_cell : (b : Bit) (bs : List Bit) → last_of (data_of b) (cells_after b bs) ≡ data_of (last_of b bs)
unfolding cells_after last_of
last_half_cell b [] = refl
last_half_cell b (c ∷ bs) = last_half_cell c bs

-- a 0 after the last one ends no distance
zero_ends_none : (n : ℕ) (xs : List Bit) → distances_from n (xs ++ (O ∷ [])) ≡ distances_from n xs
unfolding distances_from
zero_ends_none n [] = refl
zero_ends_none n (x ∷ xs) =
    elim (is_one x) as (λ t.
    cond t (n ∷ distances_from 1 (xs ++ (O ∷ []))) (distances_from (suc n) (xs ++ (O ∷ [])))
    ≡ cond t (n ∷ distances_from 1 xs) (distances_from (suc n) xs))
    [ true ↦ ap (◌∷◌ n) (zero_ends_none 1 xs) | false ↦ zero_ends_none (suc n) xs ]

-- ---- bytes

last_of_bytes_is_data : {b : Bit} {ws : List ℕ} → AllKept b ws → is_gap (last_of b (all_bits ws)) ≡ false
unfolding all_bits last_of
last_of_bytes_is_data (end d) = d
last_of_bytes_is_data (more d kept rest) = rw (last_append, kept.last_letter) (last_of_bytes_is_data rest)

pub bytes_are_sound : {b : Bit} {ws : List ℕ} → AllKept b ws → T (sound b (all_bits ws ++ (O ∷ O ∷ [])))
unfolding all_bits sound follows
bytes_are_sound {b = O} (end d) = tt
bytes_are_sound {b = I} (end d) = tt
bytes_are_sound {b = G} (end d) = tt
bytes_are_sound (more {b} {w} d kept rest) =
    rw append_assoc
    (sound_append b (written_bits w) _ kept.letters_are_sound (rw kept.last_letter (bytes_are_sound rest)))

-- an image's half cells are those of its bytes' letters
cells_of_image : {b : Bit} {ws : List ℕ} → AllKept b ws → image_cells (image_from b ws) ≡ cells_after b (all_bits ws)
unfolding image_cells image_from all_bits cells_after
cells_of_image (end d) = refl
cells_of_image (more {b} {w} {ws} d kept rest) =
    ap₂ ◌++◌ kept.half_cells_lem
    (cells_of_image rest ∙ ap (λ (c : Bit). cells_after c (all_bits ws)) (sym kept.last_letter))
    ∙ sym (cells_after_append b (written_bits w) (all_bits ws))

-- ---- an image between its ends

-- the clock bit after a data bit, and the half cells of the two closing 0s
clock_for_zero : (b : Bit) → is_gap b ≡ false → clock_bit (data_of b) O ≡ clock_after b O
unfolding clock_bit clock_after data_of
clock_for_zero O d = refl
clock_for_zero I d = refl
clock_for_zero G d = absurd (true≢false d)

closing_cells : (b : Bit) → cells_after b (O ∷ O ∷ []) ≡ clock_after b O ∷ O ∷ I ∷ O ∷ []
unfolding cells_after clock_after clock_bit data_of
closing_cells b = refl

pub distances_are_cells
    : (ws : List ℕ) → everywhere is_byte ws ≡ true → distances (framed (image_of ws)) ≡ written_cells ws
unfolding distances distances_from framed image_of written_cells written_symbols bits_of symbols_of cells_of units_at data_of
    clock_after
distances_are_cells ws bytes =
    let front = cells_after O (all_bits ws) in
    let last = last_of O (all_bits ws) in
    let kept = all_kept O ws refl bytes in
    let cells : image_cells (image_from O ws) ≡ front = cells_of_image kept in
    let clock : clock_bit (last_of O (image_cells (image_from O ws))) O ≡ clock_after last O =
    ap (λ (l : List Bit). clock_bit (last_of O l) O) cells
    ∙ ap (λ (c : Bit). clock_bit c O) (last_half_cell O (all_bits ws))
    ∙ clock_for_zero last (last_of_bytes_is_data kept) in
    ap₂ (λ (l : List Bit) (c : Bit). distances_from 2 (l ++ (c ∷ O ∷ I ∷ []))) cells clock
    ∙ sym (zero_ends_none 2 (front ++ (clock_after last O ∷ O ∷ I ∷ [])))
    ∙ ap (distances_from 2) (append_assoc front (clock_after last O ∷ O ∷ I ∷ []) (O ∷ [])
    ∙ ap (◌++◌ front) (sym (closing_cells last))
    ∙ sym (cells_after_append O (all_bits ws) (O ∷ O ∷ [])))
    ∙ distances_of_letters O (all_bits ws ++ (O ∷ O ∷ [])) 2 (bytes_are_sound kept)

-- ---- what follows an image

-- a one ends the distance before it, and the next begins there
distances_from_a_one
    : (n : ℕ) (xs ys : List Bit)
    → distances_from n (xs ++ (I ∷ ys)) ≡ distances_from n (xs ++ (I ∷ [])) ++ distances_from 1 ys
unfolding distances_from
distances_from_a_one n [] ys = refl
distances_from_a_one n (O ∷ xs) ys = distances_from_a_one (suc n) xs ys
distances_from_a_one n (I ∷ xs) ys = ap (◌∷◌ n) (distances_from_a_one 1 xs ys)
distances_from_a_one n (G ∷ xs) ys = distances_from_a_one (suc n) xs ys

pub distances_and_more
    : (ws : List ℕ) (ys : List Bit)
    → everywhere is_byte ws ≡ true
    → distances_from 2
    (image_cells (image_of ws) ++ (clock_bit (last_of O (image_cells (image_of ws))) O ∷ O ∷ I ∷ ys))
    ≡ written_cells ws ++ distances_from 1 ys
unfolding distances distances_from framed
distances_and_more ws ys bytes =
    let front = image_cells (image_of ws) in
    let clock = clock_bit (last_of O front) O in
    ap (distances_from 2) (sym (append_assoc front (clock ∷ O ∷ []) (I ∷ ys)))
    ∙ distances_from_a_one 2 (front ++ (clock ∷ O ∷ [])) ys
    ∙ ap (λ (l : List ℕ). l ++ distances_from 1 ys)
    (ap (distances_from 2) (append_assoc front (clock ∷ O ∷ []) (I ∷ [])) ∙ distances_are_cells ws bytes)

data_bit_alone : (b : Bit) → is_gap b ≡ false → data_of b ≡ b
unfolding data_of
data_bit_alone O d = refl
data_bit_alone I d = refl
data_bit_alone G d = absurd (true≢false d)

-- a word ends in its byte's last bit
pub last_of_word : (b : Bit) (w : ℕ) → is_gap b ≡ false → is_byte w ≡ true → last_of b (half_cells (word_of b w)) ≡ last_bit w
last_of_word b w d byte =
    let kept = word_is_kept b w d byte in
    ap₂ last_of (sym (data_bit_alone b d)) kept.half_cells_lem
    ∙ last_half_cell b (written_bits w)
    ∙ ap data_of kept.last_letter
    ∙ data_bit_alone (last_bit w) (last_bit_is_data w)

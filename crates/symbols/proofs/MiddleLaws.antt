-- Reading from the middle: after two 0 bits a transition stands before the second, so the cells of what follows are
-- the same as if that 0 were the lead of a list of their own.
use Rattle.std.proofs.Common.{◌≡◌, ℕ, zero, suc, ◌/◌, ◌%◌, ◌<◌, Bool, true, false, List, [], ◌∷◌, ◌++◌, map, length, take, drop, refl, append_assoc, append-nil, arith, ne_eqb}
use lib.Seq.{append_snoc, drop-append_seam}
use Rattle.items.specs.Item.{is_mark}
use Rattle.symbols.specs.Bits.{Bit, O, byte_bits, written_bits, all_bits, bits_of}
use Rattle.symbols.specs.Cells.{pair_symbols, symbols_from, symbols_of, cells_from, cells_of, written_symbols}
use Rattle.symbols.specs.Cells.{written_cells}
use Rattle.symbols.specs.Reading.{units, read_bits}
use Rattle.symbols.specs.declared.Cell.{Cell}
use Rattle.symbols.proofs.BytesLaws.{bits_of-append}
use Rattle.symbols.proofs.RoundTripLaws.{read_of_write}

symbols_append :
    (b z : Bit) (xs ys : List Bit)
    → symbols_from b (xs ++ (z ∷ ys)) ≡ symbols_from b (xs ++ (z ∷ [])) ++ symbols_from z ys
unfolding symbols_from
symbols_append b z [] ys = rw append_assoc
symbols_append b z (x ∷ xs) ys = rw (symbols_append x z xs ys, append_assoc)

cells_append :
    (u : ℕ) (ss ts : List Bool) → cells_from u (ss ++ (true ∷ ts)) ≡ cells_from u (ss ++ (true ∷ [])) ++ cells_from 2 ts
unfolding cells_from
cells_append u [] ts = refl
cells_append u (true ∷ ss) ts = rw (cells_append 2 ss ts)
cells_append u (false ∷ ss) ts = cells_append (suc u) ss ts

-- a transition stands between two 0s
cells_at_zeros :
    (b : Bit) (bs ys : List Bit)
    → cells_from 2 (symbols_from b (bs ++ (O ∷ O ∷ ys)))
    ≡ cells_from 2 (symbols_from b (bs ++ (O ∷ O ∷ []))) ++ cells_from 2 (symbols_from O ys)
unfolding symbols_from pair_symbols
cells_at_zeros b bs ys =
    rw (symbols_append b O bs (O ∷ ys), symbols_append b O bs (O ∷ []))
    (cells_append 2 (symbols_from b (bs ++ (O ∷ []))) (symbols_from O ys))

-- the cells up to the transition before the last bit of us, where that is a 0 that follows a 0
unfoldable pub cells_before : List ℕ → List ℕ
cells_before us = cells_of (symbols_of (O ∷ all_bits us))

pub cells_after_zeros :
    (us ws : List ℕ) (bs : List Bit) → all_bits us ≡ bs ++ (O ∷ O ∷ [])
    → written_cells (us ++ ws) ≡ cells_before us ++ written_cells ws
unfolding written_cells written_symbols bits_of cells_before cells_of symbols_of
cells_after_zeros us ws bs h =
    rw (bits_of-append us ws, h, append_assoc bs, append_assoc bs) (cells_at_zeros O bs (all_bits ws ++ (O ∷ O ∷ [])))

-- a data byte that is a multiple of 4 ends in two 0s
data_bits_end_in_zeros : (w : ℕ) → w < 256 → w % 4 ≡ 0 → (bs : List Bit) × (written_bits w ≡ bs ++ (O ∷ O ∷ []))
unfolding written_bits is_mark byte_bits
data_bits_end_in_zeros w h e =
    let no_a1 = ne_eqb w 0x1a1 (λ q. omega arith) in
    let no_c2 = ne_eqb w 0x1c2 (λ q. omega arith) in
    let zero_2 = ne_eqb (w / 2 % 2) 1 (λ q. omega arith) in
    let zero_1 = ne_eqb (w / 1 % 2) 1 (λ q. omega arith) in
    (take 6 (byte_bits w), rw (no_a1, no_c2, zero_2, zero_1))

-- the cells after such a byte are those of a list of their own
pub cells_after_byte :
    (us ws : List ℕ) (w : ℕ) → w < 256 → w % 4 ≡ 0
    → written_cells (us ++ (w ∷ ws)) ≡ cells_before (us ++ (w ∷ [])) ++ written_cells ws
unfolding all_bits
cells_after_byte us ws w h e =
    let z = data_bits_end_in_zeros w h e in
    rw (← append_snoc us w ws) (cells_after_zeros (us ++ (w ∷ [])) ws (all_bits us ++ z.0)
    (rw (bits_of-append us (w ∷ []), append-nil, z.1, append_assoc)))

map_drop : (n : ℕ) (cs : List Cell) → map units (drop n cs) ≡ drop n (map units cs)
map_drop zero cs = refl
map_drop (suc n) [] = refl
map_drop (suc n) (c ∷ cs) = map_drop n cs

-- so they are read as that list
pub read_from_the_middle :
    (front ws : List ℕ) (cs : List Cell) → map units cs ≡ front ++ written_cells ws
    → read_bits (drop (length front) cs) ≡ O ∷ all_bits ws ++ (O ∷ [])
read_from_the_middle front ws cs h =
    read_of_write ws (drop (length front) cs)
    (rw (map_drop (length front) cs, h, drop-append_seam))

-- a byte 00 is eight cells of 2 units
pub cells_of_zero_byte : (ws : List ℕ) → written_cells (0 ∷ ws) ≡ 2 ∷ 2 ∷ 2 ∷ 2 ∷ 2 ∷ 2 ∷ 2 ∷ 2 ∷ written_cells ws
unfolding cells_before cells_of cells_from symbols_of symbols_from pair_symbols all_bits written_bits is_mark byte_bits
cells_of_zero_byte ws = cells_after_byte [] ws 0 (omega arith) refl

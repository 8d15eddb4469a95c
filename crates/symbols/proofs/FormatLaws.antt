-- The cells of the bytes that a track is laid out with, 00, 4E and the mark A1, whatever bytes come before and after:
-- by computing one byte, and by induction on how many there are.
use Rattle.std.proofs.Common.{◌≡◌, ℕ, zero, suc, ◌*◌, false, List, [], ◌∷◌, ◌++◌, map, replicate, refl, true≢false, append_assoc, arith}
use Rattle.items.specs.Item.{is_mark}
use Rattle.symbols.specs.Bits.{Bit, O, I, G, byte_bits, mark_bits, with_gaps, written_bits, all_bits, bits_of}
use Rattle.symbols.specs.Cells.{pair_symbols, symbols_from, symbols_of, cells_from, cells_of, written_symbols}
use Rattle.symbols.specs.Cells.{written_cells}
use Rattle.symbols.specs.Reading.{units, read_from}
use Rattle.symbols.specs.Bytes.{is_gap}
use Rattle.symbols.specs.declared.Cell.{Cell}
use Rattle.symbols.proofs.MiddleLaws.{cells_of_zero_byte}
use Rattle.symbols.proofs.ReadingLaws.{cells_read_after}

-- a sync of bytes 00
pub cells_of_zero_bytes : (n : ℕ) (ws : List ℕ)
    → written_cells (replicate n 0x00 ++ ws) ≡ replicate (8 * n) 2 ++ written_cells ws
cells_of_zero_bytes zero ws = refl
cells_of_zero_bytes (suc n) ws =
    let eight : 8 * suc n ≡ suc (suc (suc (suc (suc (suc (suc (suc (8 * n)))))))) = omega arith in
    rw (eight, cells_of_zero_byte, cells_of_zero_bytes n ws)

-- a mark A1
pub cells_of_mark_a1 : (ws : List ℕ)
    → (us : List ℕ) × (written_cells (0x1a1 ∷ ws) ≡ 3 ∷ 4 ∷ 3 ∷ 4 ∷ 3 ∷ us)
unfolding written_cells written_symbols cells_of cells_from symbols_of symbols_from pair_symbols bits_of all_bits written_bits
    mark_bits with_gaps byte_bits is_mark
cells_of_mark_a1 ws = (cells_from 2 (symbols_from I (all_bits ws ++ (O ∷ O ∷ []))), refl)

-- ---- a gap of bytes 4E

abbrev closed : List ℕ → List Bit
closed ws = all_bits ws ++ (O ∷ O ∷ [])

closed_letters : (ws : List ℕ) (bs : List Bit) → bs ≡ all_bits ws ++ (O ∷ []) → bs ++ (O ∷ []) ≡ closed ws
closed_letters ws bs e = rw (e, append_assoc)

-- the cells of bytes that follow a 4E: one symbol 0 stands before them
after_gap : List ℕ → List ℕ
after_gap ws = cells_from 3 (symbols_from O (closed ws))

-- the cells of so many bytes 4E that follow a 4E, up to the one that ends in a byte 00 after them
unfoldable pub filler_cells : ℕ → List ℕ
filler_cells zero = 3 ∷ []
filler_cells (suc n) = 3 ∷ 3 ∷ 3 ∷ 3 ∷ 2 ∷ 2 ∷ filler_cells n

cells_of_filler : (n : ℕ) (ws : List ℕ)
    → after_gap (replicate n 0x4e ++ (0x00 ∷ ws)) ≡ filler_cells n ++ (replicate 7 2 ++ written_cells ws)
unfolding after_gap filler_cells all_bits written_bits byte_bits is_mark symbols_from pair_symbols cells_from written_cells
    written_symbols cells_of symbols_of bits_of
cells_of_filler zero ws = refl
cells_of_filler (suc n) ws = rw (← cells_of_filler n ws)

-- the first cell of a gap, by the bit before it
abbrev pub first_of_filler : Bit → ℕ
first_of_filler O = 3
first_of_filler I = 4
first_of_filler G = 3

-- the cells of a 4E and so many more after a bit, up to the one that ends in a byte 00 after them
unfoldable pub filler_after : Bit → ℕ → List ℕ
filler_after b n = first_of_filler b ∷ 3 ∷ 3 ∷ 2 ∷ 2 ∷ filler_cells n

-- they are what is read, with the last bit before the gap known
pub filler_is_read : (b : Bit) (n : ℕ) (ws : List ℕ) (cs : List Cell) → is_gap b ≡ false
    → read_from b cs ≡ all_bits (replicate (suc n) 0x4e ++ (0x00 ∷ ws)) ++ (O ∷ [])
    → map units cs ≡ filler_after b n ++ (replicate 7 2 ++ written_cells ws)
unfolding filler_after after_gap all_bits written_bits byte_bits is_mark symbols_of symbols_from pair_symbols cells_from
filler_is_read O n ws cs e read =
    rw (← (cells_read_after cs).0, closed_letters (replicate (suc n) 0x4e ++ (0x00 ∷ ws)) _ read, cells_of_filler n ws)
filler_is_read I n ws cs e read =
    rw (← (cells_read_after cs).1, closed_letters (replicate (suc n) 0x4e ++ (0x00 ∷ ws)) _ read, cells_of_filler n ws)
filler_is_read G n ws cs e read = absurd (true≢false e)

-- Machine, not meaning: laws tie it to the dots of a page (`proofs/CellLaws`, `ColumnLaws`). No lemmas here.
-- How the code counts dots: those of both halves of a cell at once, three rows of 32 cells at a time, in 32 columns.
use Rattle.std.specs.Prelude.{ℕ, ◌+◌, ◌-◌, ◌/◌}
use Rattle.std.specs.Int.Bits.{bit_and}

-- the ones of each pair of bits of a byte
unfoldable pub pairs_of : ℕ → ℕ
pairs_of cell = cell - bit_and (cell / 2) 0x55

-- of each half: those of bits 4 to 7 times 16, and those of bits 0 to 3
unfoldable pub halves_of : ℕ → ℕ
halves_of cell = bit_and (pairs_of cell) 0x33 + bit_and (pairs_of cell / 4) 0x33

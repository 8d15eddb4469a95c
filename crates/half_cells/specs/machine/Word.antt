-- Machine, not meaning: laws above tie it to Bytes (`symbols/proofs/WordLaws`: `word_verdict`). No lemmas here.
-- What the half cells of a byte say. A word x has 17: at place 16 the data bit before the byte, then the byte's clock
-- and data bits in turn, most significant first. So its data bits stand at the even places.
use Rattle.std.specs.Prelude.{ℕ, ◌+◌, ◌-◌, ◌*◌, ◌%◌, ◌^◌, Bool, not, ◌&&◌, ◌||◌, ◌==◌, bit_and, bit_or, count_ones}
use Rattle.std.specs.Int.Count.{count_leading_zeros}

-- the clock bits that a gap leaves out, each shown at the place above it: it is 0 between two data bits 0
unfoldable pub missing : ℕ → ℕ
missing x = bit_and ((2 ^ 32 - 1) - bit_or (bit_or x (x * 2 ^ 1 % 2 ^ 32)) (x * 2 ^ 2 % 2 ^ 32)) 0x15554

-- the words of the marks A1 and C2
abbrev pub is_mark_word : ℕ → Bool
is_mark_word x = x % 65536 == 0x4489 || x % 65536 == 0x5224

-- a gap out of place
unfoldable pub misfits : ℕ → Bool
misfits x = not (missing x == 0) && not (is_mark_word x)

abbrev pub fits : ℕ → Bool
fits x = missing x == 0 || is_mark_word x

-- with its half cells in the low places of some bits, but for a surplus: the cells that end after its first missing
-- clock, one for each 1
unfoldable pub cells_since : ℕ → ℕ → ℕ → ℕ
cells_since bits surplus gaps = count_ones (bits % 2 ^ ((surplus + 32 - count_leading_zeros 32 gaps) % 32))

-- the place of the first of so many cells, the last of which stands at a place
unfoldable pub first_of_cells : ℕ → ℕ → ℕ
first_of_cells at cells = (at + 1 + (2 ^ 32 - cells)) % 2 ^ 32

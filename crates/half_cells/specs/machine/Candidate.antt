-- Machine, not meaning: laws above tie it to bytes (`symbols/proofs/WordLaws`: `word_verdict`; `images/proofs/ReadLaws`:
-- `owner_is_candidate`, `ruly_where_candidate_has`). No lemmas here.
-- The one byte that can have a word, found without a search.
use Rattle.std.specs.Prelude.{ℕ, ◌+◌, ◌/◌, cond, ◌==◌, bit_and, bit_or}

-- a number and itself moved down, what the mask keeps
abbrev pub joined : ℕ → ℕ → ℕ → ℕ
joined n divisor mask = bit_and (bit_or n (n / divisor)) mask

-- the data bits of a word, every second bit from the lowest on, moved together: to pairs, fours, all eight
abbrev pub pairs : ℕ → ℕ
pairs word = joined (bit_and word 0x5555) 2 0x3333

abbrev pub fours : ℕ → ℕ
fours word = joined (pairs word) 4 0x0f0f

unfoldable pub data_bits : ℕ → ℕ
data_bits word = joined (fours word) 16 0x00ff

-- a mark for its own word, else the byte of the data bits
unfoldable pub candidate : ℕ → ℕ
candidate word = cond (word == 0x4489) (256 + 0xa1) (cond (word == 0x5224) (256 + 0xc2) (data_bits word))

-- Machine, not meaning: laws tie it to `word_of` (`proofs/SpreadLaws`). No lemmas here.
-- The code word of a data byte without a table: its bits moved apart, and the clock bits between them.
use Rattle.std.specs.Prelude.{ℕ, ◌*◌, ◌/◌, ◌%◌}
use Rattle.std.specs.Int.Bits.{bit_and, bit_or, bit_xor}

-- a number and itself moved up, what the mask keeps
abbrev pub parted : ℕ → ℕ → ℕ → ℕ
parted n factor mask = bit_and (bit_or n (n * factor % 65536)) mask

-- the bits of a byte, moved apart: to fours, pairs, every second place from the lowest on
abbrev pub apart : ℕ → ℕ
apart byte = parted (parted (parted byte 16 0x0f0f) 4 0x3333) 2 0x5555

-- the clock bits, each at the place of the data bit behind it: 1 where neither that bit nor the one before is 1
abbrev pub clocks_of : ℕ → ℕ → ℕ
clocks_of previous bits =
    bit_xor (bit_and (bit_or (bit_or bits (bits / 4)) (previous * 16384 % 65536)) 0x5555) 0x5555

-- after a data bit, as a number
unfoldable pub spread_word : ℕ → ℕ → ℕ
spread_word previous byte = bit_or (apart byte) (clocks_of previous (apart byte) * 2 % 65536)

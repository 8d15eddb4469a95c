-- Document 01, "From bits to cells": the bits of written bytes. No lemmas here.
-- A third letter marks, once and in the byte itself, the first 0 of a mark's gap; everything after this file is free
-- of bytes and marks.
use Rattle.std.specs.Prelude.{ℕ, ◌/◌, ◌%◌, Bool, true, false, cond, ◌&&◌, List, [], ◌∷◌, ◌++◌, ◌==◌}
use Rattle.items.specs.Item.{is_mark}

-- a bit: 0, 1, or a 0 that begins a mark's gap
pub data Bit : Type 0 where
  O I G : Bit

-- the bit of a byte that counts so much, 128 for the most significant, as a letter
abbrev pub bit_of : ℕ → ℕ → Bit
bit_of byte weight = cond (byte / weight % 2 == 1) I O

-- a byte's bits, most significant first
unfoldable pub byte_bits : ℕ → List Bit
byte_bits b =
    bit_of b 128 ∷ bit_of b 64 ∷ bit_of b 32 ∷ bit_of b 16 ∷ bit_of b 8 ∷ bit_of b 4 ∷ bit_of b 2 ∷ bit_of b 1 ∷ []

abbrev pub is_zero : Bit → Bool
is_zero O = true
is_zero I = false
is_zero G = true

abbrev pub is_one : Bit → Bool
is_one O = false
is_one I = true
is_one G = false

-- the last of some bits; b where there is none
unfoldable pub last_of : Bit → List Bit → Bit
last_of b [] = b
last_of b (c ∷ bs) = last_of c bs

-- the letter of a bit in a mark byte, given the two bits before it and the one after it: a pair 00 whose two earlier
-- bits are 1 0 is a gap
abbrev pub gapped : Bit → Bit → Bit → Bit → Bit
gapped b2 b1 b next = cond (is_one b2 && is_zero b1 && is_zero b && is_zero next) G b

-- a mark byte's letters; the two bits before the byte count as none, and the last bit has none after it: all four are
-- inside the byte
unfoldable pub with_gaps : Bit → Bit → List Bit → List Bit
with_gaps b2 b1 [] = []
with_gaps b2 b1 (b ∷ []) = b ∷ []
with_gaps b2 b1 (b ∷ next ∷ bs) = gapped b2 b1 b next ∷ with_gaps b1 b (next ∷ bs)

unfoldable pub mark_bits : ℕ → List Bit
mark_bits b = with_gaps O O (byte_bits b)

-- the letters of a written byte: of a mark byte with its gap
unfoldable pub written_bits : ℕ → List Bit
written_bits w = cond (is_mark w) (mark_bits (w % 256)) (byte_bits w)

unfoldable pub all_bits : List ℕ → List Bit
all_bits [] = []
all_bits (w ∷ ws) = written_bits w ++ all_bits ws

-- a lead 0, the written bytes most significant bit first, two closing 0s
unfoldable pub bits_of : List ℕ → List Bit
bits_of ws = O ∷ all_bits ws ++ (O ∷ O ∷ [])

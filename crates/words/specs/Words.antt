-- Request (v): a written byte as a 16-bit code word. No lemmas here. A word's bits are half cells, a clock bit and a
-- data bit in turn; O is 0 and I is 1, and a one is a transition.
use Rattle.std.specs.Prelude.{ℕ, ◌+◌, ◌/◌, ◌%◌, cond, ◌&&◌, List, [], ◌∷◌, eqb}
use Rattle.lists.specs.Table.{tabulated}
use Rattle.items.specs.Item.{is_mark}
use Rattle.symbols.specs.Bits.{Bit, O, I, is_zero, byte_bits}
use Rattle.symbols.specs.Bytes.{number_from}

-- a clock bit is 1 between two 0 data bits
unfoldable pub clock_bit : Bit → Bit → Bit
clock_bit before bit = cond (is_zero before && is_zero bit) I O

-- a clock bit before each data bit
unfoldable pub clocked : Bit → List Bit → List Bit
clocked before [] = []
clocked before (bit ∷ bits) = clock_bit before bit ∷ bit ∷ clocked bit bits

-- the code word of a data byte after a data bit: most significant first
unfoldable pub data_word : Bit → ℕ → ℕ
data_word before byte = number_from 0 (clocked before (byte_bits byte))

-- mark A1 is hexadecimal 4489 and mark C2 is 5224, after either bit
unfoldable pub mark_word : ℕ → ℕ
mark_word w = cond (eqb w (256 + 0xa1)) 0x4489 0x5224

-- the code word of a written byte after a data bit
unfoldable pub word_of : Bit → ℕ → ℕ
word_of before w = cond (is_mark w) (mark_word w) (data_word before w)

-- the last data bit of a byte
unfoldable pub last_bit : ℕ → Bit
last_bit w = cond (eqb (w % 2) 1) I O

-- 512 code words, one for each previous bit and byte: those after a 0, then those after a 1
unfoldable pub word_at : ℕ → ℕ
word_at k = data_word (last_bit (k / 256)) (k % 256)

unfoldable pub code_words : List ℕ
code_words = tabulated word_at 0 512

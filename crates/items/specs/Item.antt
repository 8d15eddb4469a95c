-- Document 01, "Items and the check register": what an item is, and how many bytes it counts for. No lemmas here.
-- An item is the FIFO's ten bits as a number.
use Rattle.std.specs.Prelude.{ℕ, ◌+◌, Bool, cond, not, ◌||◌, List, [], ◌∷◌, eqb, ltb}

-- 256 plus hexadecimal A1 or C2, a mark byte
unfoldable pub is_mark : ℕ → Bool
is_mark n = eqb n (256 + 0xa1) || eqb n (256 + 0xc2)

-- 0 to 255 a data byte, or a mark byte: what a list's written bytes are
unfoldable pub is_byte : ℕ → Bool
is_byte n = ltb n 256 || is_mark n

-- 512, a check order
unfoldable pub is_check : ℕ → Bool
is_check n = eqb n 512

-- a data byte, a mark byte or a check order. No other number is an item
unfoldable pub is_item : ℕ → Bool
is_item n = is_byte n || is_check n

-- 3, foreign
unfoldable pub is_foreign : ℕ → Bool
is_foreign n = not (is_item n)

-- in counting written bytes, 512 counts two and every other number one, an item or not
unfoldable pub bytes_of : ℕ → ℕ
bytes_of n = cond (is_check n) 2 1

unfoldable pub written_bytes : List ℕ → ℕ
written_bytes [] = 0
written_bytes (n ∷ ns) = bytes_of n + written_bytes ns

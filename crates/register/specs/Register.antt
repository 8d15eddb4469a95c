-- Document 01, "Items and the check register": the register, bit by bit. No lemmas here.
use Rattle.std.specs.Prelude.{ℕ, zero, suc, ◌*◌, ◌/◌, ◌%◌, cond, ltb}
use Rattle.std.specs.Int.Bits.{bit_xor}

-- all ones, 16 bits
abbrev pub all_ones : ℕ
all_ones = 0xffff

-- x^16 + x^12 + x^5 + 1, without its highest term, which the shift takes out
abbrev pub polynomial : ℕ
polynomial = 0x1021

-- one bit: the register moves up by one, and the polynomial is added where a 1 left at the top
unfoldable pub shifted : ℕ → ℕ
shifted r = cond (ltb r 0x8000) (r * 2) (bit_xor (r * 2 % 0x10000) polynomial)

unfoldable pub shifted_by : ℕ → ℕ → ℕ
shifted_by zero r = r
shifted_by (suc n) r = shifted_by n (shifted r)

-- one byte, most significant bit first: added at the top, then moved out in eight steps
unfoldable pub fed : ℕ → ℕ → ℕ
fed r byte = shifted_by 8 (bit_xor r (byte * 256))

-- the register's two bytes, high byte first
abbrev pub high_byte : ℕ → ℕ
high_byte r = r / 256

abbrev pub low_byte : ℕ → ℕ
low_byte r = r % 256

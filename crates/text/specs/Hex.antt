-- Document 01, "The strip program": bytes as two digits 0-9 A-F. No lemmas here.
use Rattle.std.specs.Prelude.{Option, Some, None}
use Rattle.std.specs.Prelude.{ℕ, ◌+◌, ◌-◌, ◌*◌, Bool, false, cond, ◌&&◌, List, [], ◌∷◌, leb, ltb}

-- the number of a digit 0-9 A-F; 16 for every other byte
unfoldable pub hex_digit : ℕ → ℕ
hex_digit b =
    cond (leb 48 b && leb b 57) (b - 48)
    (cond (leb 65 b && leb b 70) (b - 55)
    16)

abbrev pub is_hex_digit : ℕ → Bool
is_hex_digit b = ltb (hex_digit b) 16

-- what a byte is as a digit
unfoldable pub digit_read : ℕ → Option ℕ
digit_read b = cond (is_hex_digit b) (Some (hex_digit b)) None

-- two digits
unfoldable pub is_hex_byte : List ℕ → Bool
is_hex_byte [] = false
is_hex_byte (a ∷ []) = false
is_hex_byte (a ∷ b ∷ []) = is_hex_digit a && is_hex_digit b
is_hex_byte (a ∷ b ∷ c ∷ ds) = false

-- the byte that two digits are, the high one first
unfoldable pub hex_byte : List ℕ → ℕ
hex_byte [] = 0
hex_byte (a ∷ []) = 0
hex_byte (a ∷ b ∷ ds) = hex_digit a * 16 + hex_digit b

-- what a field is as a byte
unfoldable pub byte_read : List ℕ → Option ℕ
byte_read field = cond (is_hex_byte field) (Some (hex_byte field)) None

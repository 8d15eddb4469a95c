-- Document 01, "The strip program": a line of the input. No lemmas here.
-- Fields are parted by one tab.
use Rattle.std.specs.Prelude.{Option, Some, None}
use Rattle.std.specs.Prelude.{ℕ, ◌+◌, Bool, true, false, cond, ◌&&◌, ◌||◌, List, [], ◌∷◌, map, eqb, length, drop}
use Rattle.lists.specs.Place.{everywhere}
use Rattle.text.specs.Ascii.{ascii, tab, same_text}
use Rattle.text.specs.Pieces.{pieces_of, up_to}
use Rattle.text.specs.Decimal.{is_decimal, value_of}
use Rattle.text.specs.Hex.{is_hex_byte, hex_byte}
use Rattle.timing.specs.Numbers.{profile_numbers, from_numbers}
use Rattle.timing.specs.declared.Profile.{Profile}

-- the first field of a line
unfoldable pub word_of : List ℕ → List ℕ
word_of line = up_to tab line

-- the fields after it
unfoldable pub arguments_of : List ℕ → List (List ℕ)
arguments_of line = drop 1 (pieces_of tab line)

-- first `profile` and eleven decimals, in the order of the profile
unfoldable pub is_profile_line : List ℕ → Bool
is_profile_line line =
    same_text (word_of line) (ascii "profile") &&
    (eqb (length (arguments_of line)) profile_numbers && everywhere is_decimal (arguments_of line))

-- the profile of these decimals
unfoldable pub profile_of : List ℕ → Profile
profile_of line = from_numbers (map value_of (arguments_of line))

unfoldable pub profile_read : List ℕ → Option Profile
profile_read line = cond (is_profile_line line) (Some (profile_of line)) None

abbrev pub is_some : List (List ℕ) → Bool
is_some [] = false
is_some (field ∷ fields) = true

-- one or more bytes as two digits 0-9 A-F
unfoldable pub are_bytes : List (List ℕ) → Bool
are_bytes fields = is_some fields && everywhere is_hex_byte fields

-- `data` or `mark` lines with one or more bytes, or `crc` alone
unfoldable pub is_item_line : List ℕ → Bool
is_item_line line =
    same_text line (ascii "crc")
    || ((same_text (word_of line) (ascii "data") || same_text (word_of line) (ascii "mark")) && are_bytes (arguments_of line))

-- the bytes of fields as items, each with a number added
unfoldable pub raised : ℕ → List (List ℕ) → List ℕ
raised base [] = []
raised base (field ∷ fields) = (base + hex_byte field) ∷ raised base fields

-- a `mark` byte b is the number 256 + b; `crc` is a check order
unfoldable pub line_items : List ℕ → List ℕ
line_items line =
    cond (same_text line (ascii "crc")) (512 ∷ [])
    (cond (same_text (word_of line) (ascii "data")) (raised 0 (arguments_of line))
    (raised 256 (arguments_of line)))

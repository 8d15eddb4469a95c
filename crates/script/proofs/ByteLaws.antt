-- The bytes of a line: where something follows its word, the fields from there on are bytes if each of them is one,
-- and a line has at most one item more than it has bytes. Rests on no axiom.
use Prim.Native.Nat.{ℕ, suc, ◌≤◌, ◌<◌}
use mathlib.Core.Path.{◌≡◌, refl, ap}
use mathlib.Core.Bool.{Bool, true, false, cond}
use mathlib.Core.List.{List, [], ◌∷◌}
use native.Mathlib.Omega.{arith}
use lib.ListN.{length, drop, length-drop}
use Rattle.lists.specs.Place.{everywhere}
use Rattle.text.specs.Hex.{is_hex_byte}
use Rattle.text.specs.Ascii.{ascii, tab, same_text}
use Rattle.text.specs.Pieces.{up_to}
use Rattle.text.proofs.PieceLaws.{pieces_of_text}
use Rattle.script.specs.Line.{are_bytes, raised, word_of, arguments_of, line_items}
use Rattle.script.specs.machine.Read.{fields_after}
use Rattle.script.proofs.FieldLaws.{fields_next, few_fields}

pub bytes_from_tab : (line : List ℕ) (from : ℕ)
    → from < length line
    → everywhere is_hex_byte (fields_after (drop from line)) ≡ are_bytes (fields_after (drop from line))
unfolding are_bytes
bytes_from_tab line from h = rw (fields_next line from _ h refl)

length_of_raised : (base : ℕ) (fields : List (List ℕ)) → length (raised base fields) ≡ length fields
unfolding raised
length_of_raised base [] = refl
length_of_raised base (field ∷ fields) = ap suc (length_of_raised base fields)

pub few_bytes : (line : List ℕ) (from base : ℕ) → length (raised base (fields_after (drop from line))) ≤ length line
few_bytes line from base =
    rw (length_of_raised base (fields_after (drop from line)))
    (omega (arith, few_fields (drop from line), length-drop from line))

pub few_items : (line : List ℕ) → length (line_items line) ≤ suc (length line)
unfolding line_items arguments_of
few_items line =
    rw (pieces_of_text tab line) (by_tests (same_text line (ascii "crc")) (same_text (word_of line) (ascii "data")) _
    (few_bytes line (length (up_to tab line))))
  where
    by_tests : (is_crc is_data_lem : Bool) (fields : List (List ℕ))
        → ((base : ℕ) → length (raised base fields) ≤ length line)
        → length (cond is_crc (512 ∷ []) (cond is_data_lem (raised 0 fields) (raised 256 fields))) ≤ suc (length line)
    by_tests true is_data_lem fields few = omega arith
    by_tests false true fields few = omega (arith, few 0)
    by_tests false false fields few = omega (arith, few 256)

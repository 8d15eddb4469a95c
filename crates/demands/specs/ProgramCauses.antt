-- Document 01, "The strip program": the causes of the program in their turn. No lemmas here.
use Rattle.std.specs.Prelude.{ℕ, suc, ◌<◌, ◌≡◌, Bool, true, not, List, [], ◌∷◌, ltb, length}
use Rattle.lists.specs.Place.{anywhere, lowest, passed}
use Rattle.items.specs.Item.{written_bytes}
use Rattle.text.specs.Ascii.{line_feed}
use Rattle.text.specs.Pieces.{pieces_of}
use Rattle.script.specs.Line.{is_profile_line, is_item_line}
use Rattle.script.specs.Input.{profile_in, items_in}
use Rattle.demands.specs.Order.{Order, accept, turn, at0}
use Rattle.demands.specs.Causes.{profile_order, Foreign}

-- whether each of some lines is faulty as a line of items. What stands after the last line feed is a faulty line, unless
-- it is nothing
unfoldable pub faulty_after : List (List ℕ) → List Bool
faulty_after [] = []
faulty_after (rest ∷ []) = ltb 0 (length rest) ∷ []
faulty_after (line ∷ next ∷ lines) = not (is_item_line line) ∷ faulty_after (next ∷ lines)

-- the first line is to be a `profile`. Where there is no line feed it is faulty, in an empty input too
unfoldable pub faulty_lines : List (List ℕ) → List Bool
faulty_lines [] = true ∷ []
faulty_lines (rest ∷ []) = true ∷ []
faulty_lines (line ∷ next ∷ lines) = not (is_profile_line line) ∷ faulty_after (next ∷ lines)

-- the lines of an input
abbrev pub lines_of : List ℕ → List (List ℕ)
lines_of text = pieces_of line_feed text

-- 14, garbled: a line is faulty; the lowest, from 1
abbrev pub Garbled : List ℕ → ℕ → Type 0
Garbled text place =
    (anywhere passed (faulty_lines (lines_of text)) ≡ true)
    × (place ≡ suc (lowest passed (faulty_lines (lines_of text))))

-- the program: 14 before all else, at place 0 for more than 16,384 bytes, then at the lowest faulty line; then in the
-- writer's order 1, 2, 4 (over 512 written bytes), 3
abbrev pub program_order : List ℕ → Order
program_order text =
    turn 14 (at0 (16384 < length text))
    (turn 14 (Garbled text)
    (profile_order (profile_in text)
    (turn 4 (at0 (512 < written_bytes (items_in text)))
    (turn 3 (Foreign (items_in text))
    accept))))

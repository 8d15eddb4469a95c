-- Document 01, "The strip program": the input, line by line. No lemmas here.
-- Lines end in a line feed, the last too: after the last line feed stands nothing.
use Rattle.std.specs.Prelude.{ℕ, suc, not, List, [], ◌∷◌, ◌++◌, ltb, length, drop}
use Rattle.refusal.specs.Answer.{Answer, accepted, refused, refuse_if}
use Rattle.text.specs.Ascii.{line_feed}
use Rattle.text.specs.Pieces.{pieces_of, up_to}
use Rattle.timing.specs.declared.Profile.{Profile}
use Rattle.script.specs.Line.{is_profile_line, profile_of, is_item_line, line_items}

-- 14, garbled: the lowest faulty line of those from line n on. What stands after the last line feed is a faulty line,
-- unless it is nothing
unfoldable pub garbled_from : ℕ → List (List ℕ) → Answer
garbled_from n [] = accepted 0
garbled_from n (rest ∷ []) = refuse_if (ltb 0 (length rest)) 14 n (accepted 0)
garbled_from n (line ∷ next ∷ lines) = refuse_if (not (is_item_line line)) 14 n (garbled_from (suc n) (next ∷ lines))

-- the first line, counted as 1: `profile`. Where there is no line feed it is faulty, in an empty input too
unfoldable pub garbled_lines : List (List ℕ) → Answer
garbled_lines [] = refused 14 1
garbled_lines (rest ∷ []) = refused 14 1
garbled_lines (line ∷ next ∷ lines) = refuse_if (not (is_profile_line line)) 14 1 (garbled_from 2 (next ∷ lines))

-- at most 16,384 bytes, else 14, place 0
unfoldable pub input_rule : List ℕ → Answer
input_rule text = refuse_if (ltb 16384 (length text)) 14 0 (garbled_lines (pieces_of line_feed text))

-- the profile of the first line
unfoldable pub profile_in : List ℕ → Profile
profile_in text = profile_of (up_to line_feed text)

-- the items of lines
unfoldable pub items_of_lines : List (List ℕ) → List ℕ
items_of_lines [] = []
items_of_lines (rest ∷ []) = []
items_of_lines (line ∷ next ∷ lines) = line_items line ++ items_of_lines (next ∷ lines)

-- the items of the lines after the first
unfoldable pub items_in : List ℕ → List ℕ
items_in text = items_of_lines (drop 1 (pieces_of line_feed text))

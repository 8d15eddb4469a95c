-- What is proved of printed text: the numbers of a line can be read from it again. Claims only;
-- `proofs/DecimalReadBack` and `proofs/LineReadBack` prove them.
use Rattle.std.specs.Prelude.{Some}
use Rattle.std.specs.Prelude.{ℕ, ◌≤◌, ◌≡◌, Bool, true, not, List, ◌++◌, map, eqb, drop}
use Rattle.text.specs.Ascii.{tab, line_feed}
use Rattle.lists.specs.Place.{everywhere}
use Rattle.text.specs.Pieces.{pieces_of, up_to}
use Rattle.text.specs.Decimal.{decimal, value_of, decimal_read}
use Rattle.text.specs.Line.{line_of}

-- a printed number of at most 65,535 is a decimal, and that number
abbrev pub DecimalReadsBack : Type 0
DecimalReadsBack = (n : ℕ) → n ≤ 65535 → decimal_read (decimal n) ≡ Some n

-- whether a text has no byte b
unfoldable pub lacks : ℕ → List ℕ → Bool
lacks b text = everywhere (λ (x : ℕ). not (eqb x b)) text

-- the fields of a printed line after its word, up to the line feed, have the numbers that were printed, whatever is
-- printed after it
abbrev pub LineReadsBack : Type 0
LineReadsBack =
    (word numbers rest : List ℕ)
    → lacks tab word ≡ true
    → lacks line_feed word ≡ true
    → map value_of (drop 1 (pieces_of tab (up_to line_feed (line_of word numbers ++ rest)))) ≡ numbers

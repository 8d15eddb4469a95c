-- Document 01, "The strip program": a printed line. No lemmas here.
use Rattle.std.specs.Prelude.{ℕ, List, [], ◌∷◌, ◌++◌}
use Rattle.text.specs.Ascii.{tab, line_feed}
use Rattle.text.specs.Decimal.{decimal}

-- numbers, each after a tab
unfoldable pub fields_of : List ℕ → List ℕ
fields_of [] = []
fields_of (n ∷ ns) = tab ∷ decimal n ++ fields_of ns

-- a word and numbers, parted by tabs on one line
unfoldable pub line_of : List ℕ → List ℕ → List ℕ
line_of word numbers = word ++ fields_of numbers ++ (line_feed ∷ [])

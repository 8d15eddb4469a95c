-- Document 02, (i): a row of a report, which is the count, the least, the greatest and the sum of some intervals. No
-- lemmas here.
use Rattle.std.specs.Prelude.{ℕ, ◌+◌, min, max, Bool, cond, ◌||◌, List, [], ◌∷◌, eqb, ltb, length, get_or}
use Rattle.lists.specs.Sum.{sum_of}
use Rattle.lists.specs.Span.{least, greatest}

-- four numbers
abbrev pub Row : Type 0
Row = List ℕ

abbrev pub count_in : Row → ℕ
count_in row = get_or row 0 0

abbrev pub least_in : Row → ℕ
least_in row = get_or row 1 0

abbrev pub greatest_in : Row → ℕ
greatest_in row = get_or row 2 0

abbrev pub sum_in : Row → ℕ
sum_in row = get_or row 3 0

-- ---- the row of some intervals

-- an empty class has four zeros
unfoldable pub row_of : List ℕ → Row
row_of ds = length ds ∷ least ds ∷ greatest ds ∷ sum_of ds ∷ []

-- ---- two rows added

abbrev pub no_row : Row
no_row = 0 ∷ 0 ∷ 0 ∷ 0 ∷ []

-- a row whose count is zero is passed over, and two such give four zeros
unfoldable pub add_row : Row → Row → Row
add_row a b =
    cond (eqb (count_in a) 0)
    (cond (eqb (count_in b) 0) no_row b)
    (cond (eqb (count_in b) 0) a
    ((count_in a + count_in b)
    ∷ min (least_in a) (least_in b)
    ∷ max (greatest_in a) (greatest_in b)
    ∷ (sum_in a + sum_in b)
    ∷ []))

-- the largest number of 64 bits
abbrev pub largest : ℕ
largest = 18446744073709551615

-- a count or sum that does not fit in 64 bits
unfoldable pub is_overlarge : Row → Bool
is_overlarge row = ltb largest (count_in row) || ltb largest (sum_in row)

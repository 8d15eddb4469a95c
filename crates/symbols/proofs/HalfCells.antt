-- The half cells of letters, gaps included, and of the cells that give them. No lemmas here.
use Rattle.std.proofs.Common.{ℕ, zero, suc, ◌+◌, cond, ◌||◌, List, [], ◌∷◌}
use Rattle.symbols.specs.Bits.{Bit, O, I, G, is_one}
use Rattle.symbols.specs.Bytes.{digit, is_gap}
use Rattle.symbols.specs.declared.Cell.{Cell}
use Rattle.symbols.specs.declared.Cell.TheVariants.{Short, Medium, Long}

-- the clock bit between two letters: 1 between two 0s, but not after the first 0 of a gap
unfoldable pub clock_after : Bit → Bit → Bit
clock_after before b = cond (is_gap before || is_one before || is_one b) O I

-- the data bit of a letter
unfoldable pub data_of : Bit → Bit
data_of b = cond (is_one b) I O

unfoldable pub cells_after : Bit → List Bit → List Bit
cells_after before [] = []
cells_after before (b ∷ bs) = clock_after before b ∷ data_of b ∷ cells_after b bs

-- cells as half cells: each ends in a 1
unfoldable pub halves : List Cell → List Bit
halves [] = []
halves (Short ∷ cs) = O ∷ I ∷ halves cs
halves (Medium ∷ cs) = O ∷ O ∷ I ∷ halves cs
halves (Long ∷ cs) = O ∷ O ∷ O ∷ I ∷ halves cs

-- with the 1 before the first cell, the clock bit of the lead
unfoldable pub track : List Cell → List Bit
track cs = I ∷ halves cs

-- after a last letter 0 they go on to the clock bit after it
abbrev pub clock_at_end : Bit → List Bit
clock_at_end O = I ∷ []
clock_at_end I = []
clock_at_end G = I ∷ []

-- the 1s of half cells
unfoldable pub ones_among : List Bit → ℕ
ones_among [] = 0
ones_among (b ∷ bs) = digit b + ones_among bs

-- half cells from the data bit of a letter on, given that the first is the clock bit of letter 0
unfoldable pub from_letter : ℕ → List Bit → List Bit
from_letter i [] = []
from_letter zero (c ∷ hs) = hs
from_letter (suc i) (c ∷ []) = []
from_letter (suc i) (c ∷ d ∷ hs) = from_letter i hs

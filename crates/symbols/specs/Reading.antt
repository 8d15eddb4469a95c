-- Document 01, "From bits to cells", reading: the bits that cells give, and the cell that gave each. No lemmas here.
use Rattle.std.specs.Prelude.{ℕ, suc, List, [], ◌∷◌, ◌++◌}
use Rattle.symbols.specs.Bits.{Bit, O, I, G}
use Rattle.symbols.specs.declared.Cell.{Cell}
use Rattle.symbols.specs.declared.Cell.TheVariants.{Short, Medium, Long}

-- the units of a cell that can be read
abbrev pub units : Cell → ℕ
units Short = 2
units Medium = 3
units Long = 4

-- after 0, cells 2, 3, 4 give 0; 01; 00 as a mark's gap. After 1 they give 1; 0; 01
unfoldable pub given : Bit → Cell → List Bit
given O Short = O ∷ []
given O Medium = O ∷ I ∷ []
given O Long = G ∷ O ∷ []
given G Short = O ∷ []
given G Medium = O ∷ I ∷ []
given G Long = G ∷ O ∷ []
given I Short = I ∷ []
given I Medium = O ∷ []
given I Long = O ∷ I ∷ []

-- the last bit known after a cell
unfoldable pub last_after : Bit → Cell → Bit
last_after O Short = O
last_after O Medium = I
last_after O Long = O
last_after G Short = O
last_after G Medium = I
last_after G Long = O
last_after I Short = I
last_after I Medium = O
last_after I Long = I

-- the bits that cells give, with the last bit known (0 at the start)
unfoldable pub read_from : Bit → List Cell → List Bit
read_from b [] = []
read_from b (c ∷ cs) = given b c ++ read_from (last_after b c) cs

unfoldable pub read_bits : List Cell → List Bit
read_bits cs = read_from O cs

-- the place of the cell that gave each bit, the first cell having place k
unfoldable pub source_of : ℕ → List Bit → List ℕ
source_of k [] = []
source_of k (b ∷ bs) = k ∷ source_of k bs

unfoldable pub sources_from : ℕ → Bit → List Cell → List ℕ
sources_from k b [] = []
sources_from k b (c ∷ cs) = source_of k (given b c) ++ sources_from (suc k) (last_after b c) cs

unfoldable pub sources : List Cell → List ℕ
sources cs = sources_from 0 O cs

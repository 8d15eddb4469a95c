-- Document 01, "From bits to cells": symbols and cells. No lemmas here.
use Rattle.std.specs.Prelude.{ℕ, suc, Bool, true, false, List, [], ◌∷◌, ◌++◌}
use Rattle.symbols.specs.Bits.{Bit, O, I, G, bits_of}

-- each pair (bit, next bit) gives symbols: 00 gives 1; 01 gives 01; 10 gives 0; 11 gives 1; a pair that is a mark's
-- gap gives 00. true is the symbol 1. The first 0 of the next pair's gap is a 0 here
unfoldable pub pair_symbols : Bit → Bit → List Bool
pair_symbols O O = true ∷ []
pair_symbols O G = true ∷ []
pair_symbols O I = false ∷ true ∷ []
pair_symbols I O = false ∷ []
pair_symbols I G = false ∷ []
pair_symbols I I = true ∷ []
pair_symbols G next = false ∷ false ∷ []

-- the symbols of all pairs of a bit and those after it
unfoldable pub symbols_from : Bit → List Bit → List Bool
symbols_from b [] = []
symbols_from b (next ∷ bs) = pair_symbols b next ++ symbols_from next bs

unfoldable pub symbols_of : List Bit → List Bool
symbols_of [] = []
symbols_of (b ∷ bs) = symbols_from b bs

-- a transition stands before the first symbol and at each symbol 1. A cell is the stretch between transitions: 2
-- units plus one for each 0 in it. `cells_from n` are the cells of which the first has n units already
unfoldable pub cells_from : ℕ → List Bool → List ℕ
cells_from units [] = []
cells_from units (true ∷ ss) = units ∷ cells_from 2 ss
cells_from units (false ∷ ss) = cells_from (suc units) ss

unfoldable pub cells_of : List Bool → List ℕ
cells_of ss = cells_from 2 ss

-- the symbols and the cells of a list of written bytes
unfoldable pub written_symbols : List ℕ → List Bool
written_symbols ws = symbols_of (bits_of ws)

unfoldable pub written_cells : List ℕ → List ℕ
written_cells ws = cells_of (written_symbols ws)

-- Document 01, "From bits to cells": compare points, and the lengths of the cells of a symbol list. No lemmas here.
-- true is the symbol 1, as in the crate symbols.
use Rattle.std.specs.Prelude.{ℕ, suc, ◌+◌, ◌-◌, ◌*◌, Bool, true, false, List, [], ◌∷◌}
use Rattle.timing.specs.declared.Profile.{Profile}

-- the compare point of a transition: Early if the symbol before it is 1 and after it 0; Late if before 0 and after 1;
-- else Normal
unfoldable pub point : Profile → Bool → Bool → ℕ
point p true false = p.early.0
point p false true = p.late.0
point p true true = p.normal.0
point p false false = p.normal.0

-- the symbol after a transition; after the last it counts as 1
unfoldable pub symbol_after : List Bool → Bool
symbol_after [] = true
symbol_after (s ∷ ss) = s

-- T1 + (zeros × T0) + 2 × (compare point at its end − compare point at its start). The compare points double, since
-- they are whole clocks. Their difference can be below zero, so what is taken away is taken from the whole; under a
-- true profile nothing is cut off (`Claims`: `LengthsArePositive`)
unfoldable pub cell_length : Profile → ℕ → ℕ → ℕ → ℕ
cell_length p zeros start end = p.t1.0 + zeros * p.t0.0 + 2 * end - 2 * start

-- the lengths of the cells that end in the symbols given, the open one having its start's compare point and its zeros
-- already, after the symbol before
unfoldable pub lengths_from : Profile → ℕ → ℕ → Bool → List Bool → List ℕ
lengths_from p start zero_count before [] = []
lengths_from p start zero_count before (false ∷ ss) = lengths_from p start (suc zero_count) false ss
lengths_from p start zero_count before (true ∷ ss) =
    cell_length p zero_count start (point p before (symbol_after ss))
    ∷ lengths_from p (point p before (symbol_after ss)) 0 true ss

-- the first transition stands before the first symbol and itself counts as a symbol 1; the symbol before it counts as 1
unfoldable pub lengths_of : Profile → List Bool → List ℕ
lengths_of p ss = lengths_from p (point p true (symbol_after ss)) 0 true ss

-- Document 01, "From bits to cells": the length of a cell by its neighbours. No lemmas here.
-- The symbol before a transition is 1 exactly where the cell that ends there has 2 units, and the symbol after it
-- exactly where the next cell has. A missing neighbour counts as a cell of 2 units, since before the first and after
-- the last transition the symbol counts as 1.
use Rattle.std.specs.Prelude.{ℕ, ◌-◌, List, [], ◌∷◌, eqb}
use Rattle.timing.specs.declared.Profile.{Profile}
use Rattle.lengths.specs.Lengths.{point, cell_length}

-- the compare point of the transition between two cells
abbrev pub point_between : Profile → ℕ → ℕ → ℕ
point_between p before after = point p (eqb before 2) (eqb after 2)

-- the length of a cell between two
unfoldable pub between : Profile → ℕ → ℕ → ℕ → ℕ
between p before cell after = cell_length p (cell - 2) (point_between p before cell) (point_between p cell after)

-- the first of some cells
unfoldable pub next_cell : List ℕ → ℕ
next_cell [] = 2
next_cell (c ∷ cs) = c

-- the lengths of some cells, after a cell
unfoldable pub lengths_between : Profile → ℕ → List ℕ → List ℕ
lengths_between p before [] = []
lengths_between p before (c ∷ cs) = between p before c (next_cell cs) ∷ lengths_between p c cs

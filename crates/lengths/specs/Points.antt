-- Document 02, request (viii): the first and the last compare point of a symbol list, and how many symbols are 0. No
-- lemmas here. true is the symbol 1.
use Rattle.std.specs.Prelude.{ℕ, suc, Bool, true, false, List, [], ◌∷◌}
use Rattle.timing.specs.declared.Profile.{Profile}
use Rattle.lengths.specs.Lengths.{point, symbol_after}

-- of the transition before the first symbol
unfoldable pub first_point : Profile → List Bool → ℕ
first_point p ss = point p true (symbol_after ss)

-- of the last transition in some symbols, the one before them having a compare point, after the symbol before
unfoldable pub last_point_from : Profile → ℕ → Bool → List Bool → ℕ
last_point_from p at before [] = at
last_point_from p at before (false ∷ ss) = last_point_from p at false ss
last_point_from p at before (true ∷ ss) = last_point_from p (point p before (symbol_after ss)) true ss

unfoldable pub last_point : Profile → List Bool → ℕ
last_point p ss = last_point_from p (first_point p ss) true ss

-- how many symbols are 0
unfoldable pub zeros_in : List Bool → ℕ
zeros_in [] = 0
zeros_in (false ∷ ss) = suc (zeros_in ss)
zeros_in (true ∷ ss) = zeros_in ss

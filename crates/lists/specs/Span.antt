-- The least and the greatest of a list of numbers; 0 where there is none. No lemmas here.
use Rattle.std.specs.Prelude.{ℕ, min, max, List, [], ◌∷◌}

unfoldable pub least : List ℕ → ℕ
least [] = 0
least (d ∷ []) = d
least (d ∷ e ∷ ds) = min d (least (e ∷ ds))

unfoldable pub greatest : List ℕ → ℕ
greatest [] = 0
greatest (d ∷ ds) = max d (greatest ds)

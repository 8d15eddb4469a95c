-- A table that is made by a rule. No lemmas here.
use Rattle.std.specs.Prelude.{ℕ, zero, suc, List, [], ◌∷◌}

-- the n values of a rule from k on, in order
unfoldable pub tabulated : {A : Type 0} → (ℕ → A) → ℕ → ℕ → List A
tabulated rule k zero = []
tabulated rule k (suc n) = rule k ∷ tabulated rule (suc k) n

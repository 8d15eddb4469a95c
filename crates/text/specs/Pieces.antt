-- The pieces of a text that a separator parts. No lemmas here.
use Rattle.std.specs.Prelude.{ℕ, cond, List, [], ◌∷◌, eqb}

-- a byte put before the first of some pieces
abbrev pub before : ℕ → List (List ℕ) → List (List ℕ)
before b [] = (b ∷ []) ∷ []
before b (piece ∷ pieces) = (b ∷ piece) ∷ pieces

-- the pieces before, between and after the separators: one more than there are separators
unfoldable pub pieces_of : ℕ → List ℕ → List (List ℕ)
pieces_of separator [] = [] ∷ []
pieces_of separator (b ∷ bs) =
    cond (eqb b separator) ([] ∷ pieces_of separator bs) (before b (pieces_of separator bs))

-- the first piece
unfoldable pub up_to : ℕ → List ℕ → List ℕ
up_to separator [] = []
up_to separator (b ∷ bs) = cond (eqb b separator) [] (b ∷ up_to separator bs)

-- the pieces of what stands from a separator on; none where the text ends
unfoldable pub pieces_after : ℕ → List ℕ → List (List ℕ)
pieces_after separator [] = []
pieces_after separator (b ∷ text) = pieces_of separator text

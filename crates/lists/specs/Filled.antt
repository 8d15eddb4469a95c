-- Document 01, "Turned-away numbers": on acceptance the result fills the front; the remainder keeps its bytes.
use Rattle.std.specs.Prelude.{ℕ, Bool, cond, List, [], ◌∷◌, ◌++◌, length, drop}
use Rattle.std.proofs.lemmas.List.Edits.{sets}

-- the lent buffer with the result at its front
unfoldable pub filled : {A : Type 0} → List A → List A → List A
filled result old = result ++ drop (length result) old

-- the lent buffer after a run of stores from a place on; what has no room is not stored
unfoldable pub stored_at : {A : Type 0} → List A → ℕ → List A → List A
stored_at old at result = sets old at result

-- the number that a step has for the output, where it has one
abbrev pub if_given : Bool → ℕ → List ℕ
if_given given n = cond given (n ∷ []) []

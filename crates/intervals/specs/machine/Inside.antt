-- Machine, not meaning: laws tie it to Cells (`proofs/InsideLaws`). No lemmas here.
-- Whether an interval is a cell, by the lowest and the highest edge alone.
use Rattle.std.specs.Prelude.{ℕ, suc, Bool, cond, ◌&&◌, List, [], ◌∷◌, nat_le, nat_lt}
use Rattle.refusal.specs.Answer.{Answer, accepted, refused}

abbrev pub is_inside : ℕ → ℕ → ℕ → Bool
is_inside low high d = nat_le low d && nat_lt d high

-- 5 or 6: the first that is not inside, the first of all having place k
unfoldable pub inside_from : ℕ → ℕ → ℕ → List ℕ → Answer
inside_from low high k [] = accepted 0
inside_from low high k (d ∷ ds) =
    cond (nat_lt d low) (refused 5 k) (cond (nat_lt d high) (inside_from low high (suc k) ds) (refused 6 k))

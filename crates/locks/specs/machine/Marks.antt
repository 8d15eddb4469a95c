-- Machine, not meaning: a law ties it to Field (`proofs/MarksLaws`). What a field begins with that reads as three A1
-- marks. No lemmas here.
use Rattle.std.specs.Prelude.{ℕ, List, [], ◌∷◌}

-- the classes of three A1 marks at a lock: 3 4 3 4 3, then 2 4 3 4 3 twice
unfoldable pub three_marks : List ℕ
three_marks = 3 ∷ 4 ∷ 3 ∷ 4 ∷ 3 ∷ 2 ∷ 4 ∷ 3 ∷ 4 ∷ 3 ∷ 2 ∷ 4 ∷ 3 ∷ 4 ∷ 3 ∷ []

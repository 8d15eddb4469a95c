-- Document 02 (vii): what a set has of each sector number. No lemmas here.
use Rattle.std.specs.Prelude.{ℕ, suc, Bool, true, false, cond, List, [], ◌∷◌, eqb}
use Rattle.lists.specs.Table.{tabulated}
use Rattle.sets.specs.Set.{Sector}

-- the sector numbers in ascending order: a number is a byte
unfoldable pub numbers : List ℕ
numbers = tabulated (λ n. n) 0 256

-- what a set has of a number: nothing, one sector, or the number twice
pub data Held : Type 0 where
  Nothing : Held
  One : Sector → Held
  Twice : Held

-- one copy more
abbrev pub with_copy : Sector → Held → Held
with_copy s Nothing = One s
with_copy s (One t) = Twice
with_copy s Twice = Twice

unfoldable pub held_of : ℕ → List Sector → Held
held_of n [] = Nothing
held_of n (s ∷ ss) = cond (eqb s.number n) (with_copy s (held_of n ss)) (held_of n ss)

abbrev pub is_twice : Held → Bool
is_twice Nothing = false
is_twice (One s) = false
is_twice Twice = true

-- how many of a list pass a test
unfoldable pub how_many : {A : Type 0} → (A → Bool) → List A → ℕ
how_many f [] = 0
how_many f (x ∷ xs) = cond (f x) (suc (how_many f xs)) (how_many f xs)

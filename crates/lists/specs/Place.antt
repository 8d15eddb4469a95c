-- The lowest place of a list at which a test passes. No lemmas here.
use Rattle.std.specs.Prelude.{ℕ, suc, Bool, true, false, cond, ◌&&◌, ◌||◌, List, [], ◌∷◌}

-- whether the test passes at some place
unfoldable pub anywhere : {A : Type 0} → (A → Bool) → List A → Bool
anywhere f [] = false
anywhere f (x ∷ xs) = f x || anywhere f xs

-- whether it passes at every place
unfoldable pub everywhere : {A : Type 0} → (A → Bool) → List A → Bool
everywhere f [] = true
everywhere f (x ∷ xs) = f x && everywhere f xs

-- the lowest place at which it passes, counted from 0; the length of the list where there is none
unfoldable pub lowest : {A : Type 0} → (A → Bool) → List A → ℕ
lowest f [] = 0
lowest f (x ∷ xs) = cond (f x) 0 (suc (lowest f xs))

-- the test of a list of tests: whether the one at a place passed
abbrev pub passed : Bool → Bool
passed t = t

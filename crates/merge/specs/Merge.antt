-- Document 02 (vii): which sectors the merged set has, and when two sets are crowded or at odds. No lemmas here.
use Rattle.std.specs.Prelude.{ℕ, Bool, true, false, cond, not, ◌&&◌, ◌||◌, eqb, ltb, length}
use mathlib.Core.List.{List, [], ◌∷◌, flat_map}
use Rattle.sets.specs.Set.{Sector}
use Rattle.sets.specs.Held.{numbers, Held, Nothing, One, Twice, held_of, is_twice, how_many}

-- the copy whose sum holds is taken; if neither holds, the first; if both hold and the bytes agree, that one
unfoldable pub better : Sector → Sector → Sector
better a b = cond a.holds a (cond b.holds b a)

-- a number in one set only is taken from it; in both, the better copy
unfoldable pub taken : Held → Held → Held
taken Nothing held = held
taken (One a) Nothing = One a
taken (One a) (One b) = One (better a b)
taken (One a) Twice = Twice
taken Twice held = Twice

abbrev pub as_list : Held → List Sector
as_list Nothing = []
as_list (One s) = s ∷ []
as_list Twice = []

-- what the output has of a number
unfoldable pub taken_at : List Sector → List Sector → ℕ → List Sector
taken_at first second n = as_list (taken (held_of n first) (held_of n second))

-- output goes by ascending sector number
unfoldable pub merged : List Sector → List Sector → List Sector
merged first second = flat_map (taken_at first second) numbers

-- ---- 15, crowded: above 32 in either set or in different numbers
-- a set has the number
abbrev pub is_there : Held → Bool
is_there Nothing = false
is_there (One s) = true
is_there Twice = true

unfoldable pub in_either : List Sector → List Sector → ℕ → Bool
in_either first second n = is_there (held_of n first) || is_there (held_of n second)

unfoldable pub is_crowded : List Sector → List Sector → Bool
is_crowded first second =
    ltb 32 (length first) || ltb 32 (length second) || ltb 32 (how_many (in_either first second) numbers)

-- ---- 17, at odds: a number twice in one set, or with both sums good and unlike bytes

unfoldable pub same_bytes : List ℕ → List ℕ → Bool
same_bytes [] [] = true
same_bytes [] (y ∷ ys) = false
same_bytes (x ∷ xs) [] = false
same_bytes (x ∷ xs) (y ∷ ys) = eqb x y && same_bytes xs ys

-- both sums good and unlike bytes; another length code is unlike bytes
unfoldable pub disagree : Sector → Sector → Bool
disagree a b = a.holds && b.holds && not (eqb a.code b.code && same_bytes a.bytes b.bytes)

unfoldable pub at_odds : Held → Held → Bool
at_odds Nothing held = is_twice held
at_odds (One a) Nothing = false
at_odds (One a) (One b) = disagree a b
at_odds (One a) Twice = true
at_odds Twice held = true

unfoldable pub at_odds_at : List Sector → List Sector → ℕ → Bool
at_odds_at first second n = at_odds (held_of n first) (held_of n second)

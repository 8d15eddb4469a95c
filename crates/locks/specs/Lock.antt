-- Document 01, "Finding and reading a field": where a lock stands, and what the finder answers. No lemmas here.
use Rattle.std.specs.Prelude.{ℕ, zero, suc, ◌+◌, ◌-◌, Bool, true, false, cond, ◌&&◌, List, [], ◌∷◌, eqb, leb, length, drop, replicate}
use Rattle.lists.specs.Place.{anywhere}
use Rattle.refusal.specs.Answer.{Answer, accepted, refused, first_refusal}
use Rattle.timing.specs.Profile.{profile_rule}
use Rattle.timing.specs.Class.{classes_of, class_number}
use Rattle.timing.specs.declared.Profile.{Profile}
use Rattle.timing.specs.declared.Class.{Class}

-- the classes at the front of a list have the numbers of a pattern
unfoldable pub begins_with : List ℕ → List Class → Bool
begins_with [] cs = true
begins_with (q ∷ qs) [] = false
begins_with (q ∷ qs) (c ∷ cs) = eqb (class_number c) q && begins_with qs cs

-- the classes of a lock's marks: 3 4 3 4 3 (A1), or, by document 02, (ii), 3 2 3 4 3 4 2 3 4 3 (C2 and its second mark)
unfoldable pub lock_patterns : List (List ℕ)
lock_patterns = (3 ∷ 4 ∷ 3 ∷ 4 ∷ 3 ∷ []) ∷ (3 ∷ 2 ∷ 3 ∷ 4 ∷ 3 ∷ 4 ∷ 2 ∷ 3 ∷ 4 ∷ 3 ∷ []) ∷ []

-- a lock's mark stands at the front of a list
unfoldable pub mark_ahead : List Class → Bool
mark_ahead cs = anywhere (λ (q : List ℕ). begins_with q cs) lock_patterns

-- a lock stands at place k if the 64 intervals before k are of class 2 and those from k are of a mark's classes
unfoldable pub lock_at : List Class → ℕ → Bool
lock_at cs k = leb 64 k && begins_with (replicate 64 2) (drop (k - 64) cs) && mark_ahead (drop k cs)

-- the smallest place at which a lock stands, of so many places from k on; 10, adrift, where there is none
unfoldable pub first_lock : List Class → ℕ → ℕ → Answer
first_lock cs k zero = refused 10 0
first_lock cs k (suc places) = cond (lock_at cs k) (accepted k) (first_lock cs (suc k) places)

-- the smallest place from k on
unfoldable pub lock_from : List Class → ℕ → Answer
lock_from cs k = first_lock cs k (length cs - k)

-- a place of the list from `start` on, as a place of the whole list
abbrev pub counted_from : ℕ → Answer → Answer
counted_from start a = cond (eqb a.number 0) (accepted (start + a.count)) a

-- with all 64 at or after the caller's start: the search has the intervals from there on, and they are classed from
-- the first of them on
unfoldable pub search_rule : Profile → List ℕ → ℕ → Answer
search_rule p ds start = counted_from start (lock_from (classes_of p (drop start ds)) 0)

-- 1, 2, 10, else the place
unfoldable pub find_rule : Profile → List ℕ → ℕ → Answer
find_rule p ds start = first_refusal (profile_rule p) (search_rule p ds start)

-- Why `locks::finder::mark_ahead` answers `mark_ahead`: it tries the patterns in their order. Rests on no axiom.
use Prim.Native.Nat.{ℕ}
use mathlib.Core.Path.{◌≡◌, sym, ◌∙◌}
use mathlib.Core.Bool.{Bool, true, false, or-false}
use mathlib.Core.List.{List, [], ◌∷◌}
use Rattle.lists.specs.Place.{anywhere}
use Rattle.timing.specs.declared.Class.{Class}
use Rattle.locks.specs.Lock.{begins_with, lock_patterns, mark_ahead}
use Rattle.locks.proofs.finder.mark_ahead.Goals as goal

-- the first pattern is there, or it is not and the second decides
module _ (cs : List Class) (first : List ℕ) where
  abbrev ahead : List (List ℕ) → Bool
  ahead patterns = anywhere (λ (q : List ℕ). begins_with q cs) patterns

  first_is_ahead : (others : List (List ℕ)) → begins_with first cs ≡ true → true ≡ ahead (first ∷ others)
  unfolding anywhere
  first_is_ahead others e = rw e

  second_decides : (second : List ℕ) → begins_with first cs ≡ false → begins_with second cs ≡ ahead (first ∷ second ∷ [])
  unfolding anywhere
  second_decides second e = rw e (sym (or-false (begins_with second cs)))

pub returns-then-begins_with : goal.returns-then-begins_with
unfolding mark_ahead lock_patterns
returns-then-begins_with c = first_is_ahead _ _ _ (sym c.begins_with.ensures ∙ c.if-begins_with.true)

pub returns : goal.returns
unfolding mark_ahead lock_patterns
returns c =
    c.begins_with-2.ensures
    ∙ second_decides _ _ _ (sym c.begins_with.ensures ∙ c.if-begins_with.false)

-- Laws of numbers that a set has twice, as its index marks them: an entry is 65,535 exactly where the number is there
-- twice. Rests on no axiom.
use Prim.Native.Nat.{ℕ, ◌<◌}
use mathlib.Core.Path.{◌≡◌, refl, sym, ap, ◌∙◌}
use mathlib.Core.Bool.{Bool, true, false, cond}
use mathlib.Core.List.{List}
use borrow.Author.Tests.{eqb-true}
use lib.Dec.{eqb}
use lib.ListN.{get_or}
use Rattle.lists.specs.Place.{lowest}
use Rattle.sets.specs.Set.{sectors_in}
use Rattle.sets.specs.Held.{Nothing, One, Twice, numbers, is_twice}
use Rattle.sets.specs.Alone.{is_twice_in}
use Rattle.sets.specs.machine.Index.{sector_at, shown, Indexed}
use Rattle.sets.proofs.NumberLaws.{lowest_agrees}

-- an index marks a number as there twice
abbrev pub marks_twice : List ℕ → ℕ → Bool
marks_twice index n = eqb (get_or index n 0) 65535

shown_twice : (set : List ℕ) (entry : ℕ) → eqb entry 65535 ≡ is_twice (shown set entry)
unfolding shown
shown_twice set entry = by (eqb entry 0) (eqb entry 65535) refl refl
  where
    by
        : (t u : Bool)
        → eqb entry 0 ≡ t
        → eqb entry 65535 ≡ u
        → u ≡ is_twice (cond t Nothing (cond u Twice (One (sector_at set entry))))
    by true u e f = sym f ∙ rw (eqb-true entry 0 e)
    by false true e f = refl
    by false false e f = refl

module _ (set index : List ℕ) (indexed : Indexed set index) where
  marks_what_is_twice : (n : ℕ) → n < 256 → marks_twice index n ≡ is_twice_in (sectors_in set) n
  unfolding is_twice_in
  marks_what_is_twice n h = shown_twice set (get_or index n 0) ∙ ap is_twice (indexed.shows n h)

  pub lowest_mark : lowest (marks_twice index) numbers ≡ lowest (is_twice_in (sectors_in set)) numbers
  lowest_mark = lowest_agrees _ _ marks_what_is_twice

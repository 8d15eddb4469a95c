-- The merged set is again a set that the merge takes: its sectors are sectors of the two sets, each number once and
-- in ascending order, so that it has a sector for each number. Rests on no axiom.
use Prim.Native.Nat.{ℕ, suc, ◌<◌}
use mathlib.Core.Path.{◌≡◌, refl, ap, ap₂, ◌∙◌, sym}
use mathlib.Core.Bool.{Bool, true, false, cond, ◌&&◌, ◌||◌, true≢false}
use mathlib.Core.List.{List, [], ◌∷◌, ◌++◌, map, flat_map, map-append}
use borrow.Author.Tests.{eqb-true}
use lib.Dec.{eqb}
use lib.ListN.{length, length-map}
use Rattle.lists.specs.Place.{anywhere, everywhere}
use Rattle.lists.proofs.PlaceLaws.{everywhere_of_none, everywhere-append, everywhere_passes_at_first}
use Rattle.lists.proofs.PlaceLaws.{everywhere_in_rest, everywhere_of_passing}
use Rattle.sets.specs.Set.{Sector}
use Rattle.sets.specs.Held.{Held, Nothing, One, Twice, with_copy, held_of}
use Rattle.sets.specs.Held.{numbers, is_twice, how_many}
use Rattle.sets.specs.Claims.{is_sector}
use Rattle.sets.proofs.NumberLaws.{each_number, nowhere_at_number}
use Rattle.merge.specs.Merge.{taken, as_list, taken_at, merged}
use Rattle.merge.specs.Merge.{is_there, in_either, at_odds_at}
use Rattle.merge.specs.Claims.{those}
use Rattle.merge.proofs.ChoiceLaws.{at_peace_is_not_twice}
use Rattle.merge.proofs.HeldLaws.{has_number, taken_own, taken_once}
use Rattle.merge.proofs.OutputLaws.{taken_keeps}

-- ---- each number once, in ascending order

abbrev number_of : Sector → ℕ
number_of s = s.number

number_of_held
    : (n : ℕ) (h : Held) (ns : List ℕ)
    → has_number n h ≡ true
    → is_twice h ≡ false
    → map number_of (as_list h) ++ ns ≡ cond (is_there h) (n ∷ ns) ns
number_of_held n Nothing ns e f = refl
number_of_held n (One s) ns e f = ap (λ (k : ℕ). k ∷ ns) (eqb-true s.number n e)
number_of_held n Twice ns e f = absurd (true≢false f)

pub taken_is_there : (x y : Held) → is_there (taken x y) ≡ (is_there x || is_there y)
unfolding taken
taken_is_there Nothing y = refl
taken_is_there (One a) Nothing = refl
taken_is_there (One a) (One b) = refl
taken_is_there (One a) Twice = refl
taken_is_there Twice y = refl

count_of_those : (f : ℕ → Bool) (ns : List ℕ) → length (those f ns) ≡ how_many f ns
unfolding those how_many
count_of_those f [] = refl
count_of_those f (n ∷ ns) =
    elim (f n) as (λ t. length (cond t (n ∷ those f ns) (those f ns)) ≡ cond t (suc (how_many f ns)) (how_many f ns))
    [ true ↦ ap suc (count_of_those f ns) | false ↦ count_of_those f ns ]

module _ (first second : List Sector) (peace : anywhere (at_odds_at first second) numbers ≡ false) where
  -- no number is there twice
  pub none_is_twice
      : (n : ℕ) → n < 256 → (is_twice (held_of n first) ≡ false) × (is_twice (held_of n second) ≡ false)
  unfolding at_odds_at
  none_is_twice n h = at_peace_is_not_twice _ _ (nowhere_at_number (at_odds_at first second) peace n h)

  pub merged_numbers : map number_of (merged first second) ≡ those (in_either first second) numbers
  unfolding merged flat_map those taken_at in_either
  merged_numbers =
      each_number (λ ns. map number_of (flat_map (taken_at first second) ns) ≡ those (in_either first second) ns) refl
      (λ n ns h r.
      let x = held_of n first in
      let y = held_of n second in
      let own = taken_own first second n in
      let once = taken_once first second n (none_is_twice n h) in
      rw (map-append, r, number_of_held n (taken x y) (those (in_either first second) ns) own once, taken_is_there))

  -- a sector for each number
  pub merged_count : length (merged first second) ≡ how_many (in_either first second) numbers
  merged_count =
      sym (length-map (merged first second) number_of) ∙ ap length merged_numbers ∙ count_of_those _ numbers

-- ---- its sectors are sectors

copy_is_a_sector
    : (s : Sector) (h : Held)
    → is_sector s ≡ true
    → everywhere is_sector (as_list (with_copy s h)) ≡ true
copy_is_a_sector s Nothing e = everywhere_of_passing is_sector s [] e ∙ everywhere_of_none is_sector
copy_is_a_sector s (One t) e = everywhere_of_none is_sector
copy_is_a_sector s Twice e = everywhere_of_none is_sector

pub held_is_sectors
    : (n : ℕ) (ss : List Sector)
    → everywhere is_sector ss ≡ true
    → everywhere is_sector (as_list (held_of n ss)) ≡ true
unfolding held_of
held_is_sectors n [] e = everywhere_of_none is_sector
held_is_sectors n (s ∷ ss) e =
    elim (eqb s.number n) as
    (λ t. everywhere is_sector (as_list (cond t (with_copy s (held_of n ss)) (held_of n ss))) ≡ true) [
      | true ↦ copy_is_a_sector s (held_of n ss) (everywhere_passes_at_first is_sector s ss e)
      | false ↦ held_is_sectors n ss (everywhere_in_rest is_sector s ss e)
    ]

pub merged_is_sectors
    : (first second : List Sector)
    → everywhere is_sector first ≡ true
    → everywhere is_sector second ≡ true
    → everywhere is_sector (merged first second) ≡ true
unfolding merged flat_map taken_at
merged_is_sectors first second e f =
    each_number (λ ns. everywhere is_sector (flat_map (taken_at first second) ns) ≡ true) (everywhere_of_none is_sector)
    (λ n ns h r.
    everywhere-append is_sector (taken_at first second n) (flat_map (taken_at first second) ns)
    ∙ ap₂ ◌&&◌ (taken_keeps (λ h. everywhere is_sector (as_list h) ≡ true) _ _ (held_is_sectors n first e)
    (held_is_sectors n second f)) r)

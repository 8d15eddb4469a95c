-- Laws of a set's index while it is made: what it shows of the sectors met, joined to what the rest of the set holds,
-- is what the whole set holds. Rests on no axiom.
use Prim.Native.Nat.{ℕ, ◌+◌, ◌≤◌, ◌<◌}
use mathlib.Core.Path.{◌≡◌, refl, sym, ap, ◌∙◌}
use mathlib.Core.Bool.{Bool, true, false, cond, true≢false}
use mathlib.Core.List.{List, ◌∷◌}
use mathlib.Core.Option.{Option, none, some}
use mathlib.Core.Logic.{⊎_elim}
use native.Mathlib.Omega.{arith}
use borrow.Author.Tests.{eqb-true, eqb-false, ne_eqb, eq-eqb}
use lib.Dec.{eqb}
use lib.ListN.{length, drop, get_or, set as stored, replicate, get_or-replicate, drop_of_length-le}
use lib.Seq.{get_or-set_same, get_or-set_other}
use Rattle.sectors.specs.Sector.{sector_size}
use Rattle.sets.specs.Set.{Sector, sector_of, with_first, set_of, is_none, or_empty, sectors_in}
use Rattle.sets.specs.Held.{Held, Nothing, One, Twice, with_copy, held_of}
use Rattle.sets.specs.machine.Index.{sector_at, end_of, shown, Within, Indexed, entry_with}
use Rattle.sets.proofs.SetLaws.{set_of_none}
use Rattle.sets.proofs.PlaceLaws.{Whole, whole_or_misfit}

-- ---- what two parts of a set have of a number

abbrev pub joined : Held → Held → Held
joined Nothing rest = rest
joined (One s) rest = with_copy s rest
joined Twice rest = Twice

pub joined_assoc : (x y z : Held) → joined (joined x y) z ≡ joined x (joined y z)
joined_assoc Nothing y z = refl
joined_assoc (One s) Nothing z = refl
joined_assoc (One s) (One t) Nothing = refl
joined_assoc (One s) (One t) (One u) = refl
joined_assoc (One s) (One t) Twice = refl
joined_assoc (One s) Twice z = refl
joined_assoc Twice y z = refl

pub joined_nothing : (h : Held) → joined h Nothing ≡ h
joined_nothing Nothing = refl
joined_nothing (One s) = refl
joined_nothing Twice = refl

module _ (set : List ℕ) where
  -- an entry with one sector more
  entry_joins
      : (old place : ℕ)
      → (place ≡ 0 → ⊥)
      → (place ≡ 65535 → ⊥)
      → end_of set place ≤ length set
      → Within set (entry_with old place)
      × (shown set (entry_with old place) ≡ joined (shown set old) (One (sector_at set place)))
  unfolding shown
  entry_joins old place some_place one_place ends = by (eqb old 0) (eqb old 65535)
    where
      by
          : (t u : Bool)
          → Within set (cond t place 65535)
          × (shown set (cond t place 65535)
          ≡ joined (cond t Nothing (cond u Twice (One (sector_at set old)))) (One (sector_at set place)))
      by true u = (λ n m. ends, rw (ne_eqb place 0 some_place, ne_eqb place 65535 one_place))
      by false true = (λ n m. absurd (m refl), refl)
      by false false = (λ n m. absurd (m refl), refl)

  -- the index shows what was met before a place
  abbrev pub Indexing : List ℕ → ℕ → Type 0
  Indexing index start =
      (n : ℕ)
      → n < 256
      → Within set (get_or index n 0)
      × (joined (shown set (get_or index n 0)) (held_of n (sectors_in (drop start set))) ≡ held_of n (sectors_in set))

  pub fresh_indexes : Indexing (replicate 256 0) 0
  unfolding shown
  fresh_indexes n h = rw (get_or-replicate {A = ℕ} 256 n 0 0 h) (λ none. absurd (none refl), refl)

  pub end_indexes : (index : List ℕ) (start : ℕ) → length set ≤ start → Indexing index start → Indexed set index
  unfolding sectors_in held_of
  end_indexes index start h i =
      record {
        shows = λ n k. rw (drop_of_length-le set h, set_of_none, joined_nothing) at (i n k).1;
        within = λ n k. (i n k).0;
      }

-- ---- a turn of the index

first_of_set
    : (s : Sector) (o : Option (List Sector))
    → is_none (with_first s o) ≡ false
    → (is_none o ≡ false) × (or_empty (with_first s o) ≡ s ∷ or_empty o)
first_of_set s none e = absurd (true≢false e)
first_of_set s (some ss) e = (refl, refl)

module _ (set : List ℕ) (start : ℕ) (inside : start < length set) (fits : is_none (set_of (drop start set)) ≡ false) where
  abbrev next : ℕ
  next = start + 3 + sector_size (get_or set (start + 1) 0)

  abbrev here : Sector
  here = sector_at set (start + 1)

  -- where the rest is a set, a whole sector stands at its front
  pub whole_here : Whole set start next
  whole_here =
      ⊎_elim (λ w. w) (λ m. absurd (true≢false (sym (ap is_none m.no_set) ∙ fits)))
      (whole_or_misfit set start inside)

  pub rest_here
      : (is_none (set_of (drop next set)) ≡ false)
      × (or_empty (with_first here (set_of (drop next set))) ≡ here ∷ or_empty (set_of (drop next set)))
  rest_here = first_of_set here (set_of (drop next set)) (rw whole_here.then at fits)

  number_here : here.number ≡ get_or set start 0
  unfolding sector_at sector_of
  number_here = ap (λ (k : ℕ). get_or set k 0) (omega arith)

  held_here
      : (n : ℕ)
      → held_of n (sectors_in (drop start set))
      ≡ cond (eqb (get_or set start 0) n) (with_copy here (held_of n (sectors_in (drop next set))))
      (held_of n (sectors_in (drop next set)))
  unfolding held_of sectors_in
  held_here n = rw (whole_here.then, rest_here.1, number_here)

  pub sector_indexes
      : (index : List ℕ)
      → length index ≡ 256
      → length set ≤ 32864
      → Indexing set index start
      → get_or set start 0 < 256
      → Indexing set (stored index (get_or set start 0) (entry_with (get_or index (get_or set start 0) 0) (start + 1))) next
  sector_indexes index few short i byte n h = by (eqb number n) refl
    where
      number : ℕ
      number = get_or set start 0

      renewed : List ℕ
      renewed = stored index number (entry_with (get_or index number 0) (start + 1))

      by
          : (t : Bool)
          → eqb number n ≡ t
          → Within set (get_or renewed n 0)
          × (joined (shown set (get_or renewed n 0)) (held_of n (sectors_in (drop next set))) ≡ held_of n (sectors_in set))
      by true e =
          let same = eqb-true number n e in
          let entry =
          entry_joins set (get_or index number 0) (start + 1) (λ q. omega arith) (λ q. omega arith)
          (omega (arith, whole_here.ends)) in
          rw (← same, get_or-set_same index number (entry_with (get_or index number 0) (start + 1)) 0 (omega arith)) (
            entry.0,
            rw (entry.1, joined_assoc) (rw (held_here number, eq-eqb number number refl) at (i number byte).1),
          )
      by false e =
          rw (get_or-set_other index number n _ 0 (λ q. eqb-false number n e (sym q))) (rw (held_here n, e) at (i n h))

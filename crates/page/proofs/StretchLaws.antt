-- Laws of sectors whose numbers ascend one by one, as a stretch of pages has them: two neighbouring stretches have of a
-- number what both together have, and by number they are as they stand. Rests on no axiom.
use Prim.Native.Nat.{ℕ, zero, suc, ◌+◌, ◌-◌, ◌≤◌, ◌<◌}
use mathlib.Core.Path.{◌≡◌, refl, sym, ap, ap₂, ◌∙◌}
use mathlib.Core.Bool.{Bool, true, false}
use mathlib.Core.List.{List, [], ◌∷◌, ◌++◌, map, flat_map}
use native.Mathlib.Nat.{add-zero, zero-add}
use native.Mathlib.Omega.{arith}
use borrow.Author.Tests.{eqb-true, eqb-false, leb-true, leb-false}
use lib.Dec.{eqb, leb}
use Rattle.lists.specs.Table.{tabulated}
use Rattle.sets.specs.Set.{Sector}
use Rattle.sets.specs.Held.{Held, Nothing, with_copy, held_of, numbers}
use Rattle.merge.specs.Merge.{taken, as_list, at_odds}
use Rattle.merge.proofs.ChoiceLaws.{odds_with_nothing}
use Rattle.merge.proofs.HeldLaws.{held_of_none, held_of_own_first, held_of_other_first}
use Rattle.merge.proofs.OnceLaws.{with_nothing}
use Rattle.page.proofs.BackLaws.{not_before, own_held, once_each}

-- lists that have the same of a number have it with a sector more too
held_alike
    : (n : ℕ) (s : Sector) (ss ts : List Sector) → held_of n ss ≡ held_of n ts → held_of n (s ∷ ss) ≡ held_of n (s ∷ ts)
held_alike n s ss ts same = by (eqb s.number n) refl
  where
    by : (t : Bool) → eqb s.number n ≡ t → held_of n (s ∷ ss) ≡ held_of n (s ∷ ts)
    by true e =
        let here = eqb-true s.number n e in
        held_of_own_first n s ss here ∙ ap (with_copy s) same ∙ sym (held_of_own_first n s ts here)
    by false e =
        let other = eqb-false s.number n e in
        held_of_other_first n s ss other ∙ same ∙ sym (held_of_other_first n s ts other)

module _ (g : ℕ → Sector) (own : (n : ℕ) → (g n).number ≡ n) where
  abbrev stretch : ℕ → ℕ → List Sector
  stretch k m = map g (tabulated suc k m)

  -- ---- two neighbouring stretches

  not_beyond : (n k m : ℕ) → k + m < n → held_of n (stretch k m) ≡ Nothing
  unfolding tabulated
  not_beyond n k zero h = held_of_none n
  not_beyond n k (suc m) h =
      held_of_other_first n (g (suc k)) (stretch (suc k) m) (λ e. omega (arith, own (suc k), h, e))
      ∙ not_beyond n (suc k) m (omega arith)

  first_part : (n k m l : ℕ) → n ≤ k + m → held_of n (stretch k (m + l)) ≡ held_of n (stretch k m)
  unfolding tabulated
  first_part n k zero l h = not_before g own n k (0 + l) (omega arith) ∙ sym (held_of_none n)
  first_part n k (suc m) l h =
      let count : suc m + l ≡ suc (m + l) = omega arith in
      rw count (held_alike
      n (g (suc k)) (stretch (suc k) (m + l)) (stretch (suc k) m) (first_part n (suc k) m l (omega arith)))

  second_part : (n k m l : ℕ) → k + m < n → held_of n (stretch k (m + l)) ≡ held_of n (stretch (k + m) l)
  unfolding tabulated
  second_part n k zero l h = rw (zero-add, add-zero)
  second_part n k (suc m) l h =
      let count : suc m + l ≡ suc (m + l) = omega arith in
      let next : k + suc m ≡ suc k + m = omega arith in
      rw (count, next) (held_of_other_first n (g (suc k)) (stretch (suc k) (m + l)) (λ e.
      omega (arith, own (suc k), h, e))
      ∙ second_part n (suc k) m l (omega arith))

  module _ (k m l n : ℕ) where
    abbrev one : Held
    one = held_of n (stretch k m)

    abbrev other : Held
    other = held_of n (stretch (k + m) l)

    -- a number of either is not one of the other
    pub taken_of_both : taken one other ≡ held_of n (stretch k (m + l))
    unfolding taken
    taken_of_both = by (leb n (k + m)) refl
      where
        by : (t : Bool) → leb n (k + m) ≡ t → taken one other ≡ held_of n (stretch k (m + l))
        by true e =
            let h = leb-true n (k + m) e in
            ap (taken one) (not_before g own n (k + m) l h)
            ∙ (with_nothing one).1
            ∙ sym (first_part n k m l h)
        by false e =
            let h : k + m < n = leb-false n (k + m) e in
            ap (λ (x : Held). taken x other) (not_beyond n k m h) ∙ sym (second_part n k m l h)

    pub at_peace : at_odds one other ≡ false
    unfolding at_odds
    at_peace = by (leb n (k + m)) refl
      where
        by : (t : Bool) → leb n (k + m) ≡ t → at_odds one other ≡ false
        by true e =
            ap (at_odds one) (not_before g own n (k + m) l (leb-true n (k + m) e))
            ∙ odds_with_nothing one
            ∙ once_each g own n k m
        by false e =
            ap (λ (x : Held). at_odds x other) (not_beyond n k m (leb-false n (k + m) e))
            ∙ once_each g own n (k + m) l

  -- ---- by number they are in order

  module _ (k m : ℕ) where
    abbrev at : ℕ → List Sector
    at n = as_list (held_of n (stretch k m))

    abbrev from : ℕ → ℕ → List Sector
    from j c = flat_map at (tabulated (λ n. n) j c)

    none_after : (c j : ℕ) → k + m < j → from j c ≡ []
    unfolding flat_map tabulated
    none_after zero j h = refl
    none_after (suc c) j h = ap₂ ◌++◌ (ap as_list (not_beyond j k m h)) (none_after c (suc j) (omega arith))

    each_here : (left c i : ℕ) → k ≤ i → i + left ≡ k + m → left ≤ c → from (suc i) c ≡ stretch i left
    unfolding flat_map tabulated
    each_here zero c i low e h = none_after c (suc i) (omega arith)
    each_here (suc left) zero i low e h = absurd (omega arith)
    each_here (suc left) (suc c) i low e h =
        let place : suc (k + (i - k)) ≡ suc i = omega arith in
        let held = rw place at (own_held g own (i - k) k m (omega arith)) in
        ap₂ ◌++◌ (ap as_list held) (each_here left c (suc i) (omega arith) (omega arith) (omega arith))

    none_before : (gap c j : ℕ) → j + gap ≡ suc k → from j (gap + c) ≡ from (suc k) c
    unfolding flat_map tabulated
    none_before zero c j e = let same : j ≡ suc k = omega arith in rw (same, zero-add)
    none_before (suc gap) c j e =
        let count : suc gap + c ≡ suc (gap + c) = omega arith in
        rw count (ap₂ ◌++◌ (ap as_list (not_before g own j k m (omega arith)))
        (none_before gap c (suc j) (omega arith)))

    pub in_order : k + m < 256 → flat_map at numbers ≡ stretch k m
    unfolding numbers
    in_order h =
        let count : suc k + (256 - suc k) ≡ 256 = omega arith in
        ap (from 0) (sym count)
        ∙ none_before (suc k) (256 - suc k) 0 (omega arith)
        ∙ each_here m (256 - suc k) k (omega arith) refl (omega arith)

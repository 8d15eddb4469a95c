-- Where no number of both sets has two failed sums, nothing depends on which pass came first: every test is the same
-- either way round, and two copies that are not at odds with both sums good are one. Rests on no axiom.
use Prim.Native.Nat.{ℕ}
use mathlib.Core.Path.{◌≡◌, refl, sym, ap, ap₂, ◌∙◌}
use mathlib.Core.Bool.{Bool, true, false, cond, not, ◌&&◌, true≢false, false≢true, and_comm}
use mathlib.Core.List.{List, [], ◌∷◌}
use borrow.Author.Tests.{eqb-true, eqb-false, ne_eqb, not-false}
use lib.Dec.{eqb}
use Rattle.lists.proofs.BoolLaws.{both}
use Rattle.sets.specs.Set.{Sector}
use Rattle.sets.specs.Held.{Held, Nothing, One, Twice}
use Rattle.merge.specs.Merge.{better, taken, same_bytes, disagree, at_odds}
use Rattle.merge.specs.Claims.{both_fail}
use Rattle.merge.proofs.HeldLaws.{has_number}
use Rattle.merge.proofs.ChoiceLaws.{odds_with_nothing, twice_second_is_at_odds}
use Rattle.merge.proofs.OnceLaws.{with_nothing}

-- ---- tests that are the same either way round

equality_swaps : (m n : ℕ) → eqb m n ≡ eqb n m
equality_swaps m n = by (eqb m n) refl
  where
    by : (t : Bool) → eqb m n ≡ t → eqb m n ≡ eqb n m
    by true e = rw (eqb-true m n e)
    by false e = e ∙ sym (ne_eqb n m (λ q. eqb-false m n e (sym q)))

same_swaps : (xs ys : List ℕ) → same_bytes xs ys ≡ same_bytes ys xs
unfolding same_bytes
same_swaps [] [] = refl
same_swaps [] (y ∷ ys) = refl
same_swaps (x ∷ xs) [] = refl
same_swaps (x ∷ xs) (y ∷ ys) = ap₂ ◌&&◌ (equality_swaps x y) (same_swaps xs ys)

disagreement_swaps : (a b : Sector) → disagree a b ≡ disagree b a
unfolding disagree
disagreement_swaps a b =
    ap₂ ◌&&◌ (and_comm a.holds b.holds)
    (ap not (ap₂ ◌&&◌ (equality_swaps a.code b.code) (same_swaps a.bytes b.bytes)))

pub odds_swap : (x y : Held) → at_odds x y ≡ at_odds y x
unfolding at_odds
odds_swap Nothing y = sym (odds_with_nothing y)
odds_swap (One a) Nothing = refl
odds_swap (One a) (One b) = disagreement_swaps a b
odds_swap (One a) Twice = refl
odds_swap Twice y = sym (twice_second_is_at_odds y)

-- ---- two good copies that agree are one

same_is_equal : (xs ys : List ℕ) → same_bytes xs ys ≡ true → xs ≡ ys
unfolding same_bytes
same_is_equal [] [] e = refl
same_is_equal [] (y ∷ ys) e = absurd (false≢true e)
same_is_equal (x ∷ xs) [] e = absurd (false≢true e)
same_is_equal (x ∷ xs) (y ∷ ys) e =
    let like = both (eqb x y) (same_bytes xs ys) e in ap₂ ◌∷◌ (eqb-true x y like.0) (same_is_equal xs ys like.1)

abbrev sector_with : ℕ → ℕ → Bool → List ℕ → Sector
sector_with n c h bs = record { number = n; code = c; holds = h; bytes = bs }

good_copies_are_one
    : (n : ℕ) (a b : Sector)
    → eqb a.number n ≡ true
    → eqb b.number n ≡ true
    → a.holds ≡ true
    → b.holds ≡ true
    → disagree a b ≡ false
    → a ≡ b
unfolding disagree
good_copies_are_one n a b an bn ah bh e =
    let like =
    both (eqb a.code b.code) (same_bytes a.bytes b.bytes) (not-false _ (rw (ah, bh) at e)) in
    ap₂ (λ (k c : ℕ). sector_with k c a.holds a.bytes) (eqb-true _ n an ∙ sym (eqb-true _ n bn))
    (eqb-true _ _ like.0)
    ∙ ap₂ (sector_with b.number b.code) (ah ∙ sym bh) (same_is_equal a.bytes b.bytes like.1)

-- ---- what is taken

better_swaps
    : (n : ℕ) (a b : Sector)
    → eqb a.number n ≡ true
    → eqb b.number n ≡ true
    → disagree a b ≡ false
    → (not a.holds && not b.holds) ≡ false
    → better a b ≡ better b a
unfolding better
better_swaps n a b an bn e f = by a.holds b.holds refl refl f
  where
    by
        : (t u : Bool)
        → a.holds ≡ t
        → b.holds ≡ u
        → (not t && not u) ≡ false
        → cond t a (cond u b a) ≡ cond u b (cond t a b)
    by true true g h i = good_copies_are_one n a b an bn g h e
    by true false g h i = refl
    by false true g h i = refl
    by false false g h i = absurd (true≢false i)

pub taken_swaps
    : (n : ℕ) (x y : Held)
    → has_number n x ≡ true
    → has_number n y ≡ true
    → at_odds x y ≡ false
    → both_fail x y ≡ false
    → taken x y ≡ taken y x
unfolding taken both_fail at_odds
taken_swaps n Nothing y e f g h = sym (with_nothing y).1
taken_swaps n (One a) Nothing e f g h = refl
taken_swaps n (One a) (One b) e f g h = ap One (better_swaps n a b e f g h)
taken_swaps n (One a) Twice e f g h = refl
taken_swaps n Twice y e f g h = absurd (true≢false g)

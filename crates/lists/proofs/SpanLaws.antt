-- The least of a list is at most each element and one of them, and the greatest likewise; of two lists joined they are
-- taken over both: by induction, element by element. Rests on no axiom.
use Prim.Native.Nat.{ℕ, zero, suc, ◌<◌, ◌≤◌, min, max}
use mathlib.Core.Path.{◌≡◌, refl, sym, ◌∙◌}
use mathlib.Core.Bool.{Bool, true, false}
use mathlib.Core.List.{List, [], ◌∷◌, ◌++◌}
use native.Mathlib.Nat.{zero-max}
use native.Mathlib.Omega.{arith}
use borrow.Author.Tests.{leb-true, leb-false}
use lib.Dec.{leb}
use lib.ListN.{length, get_or}
use Rattle.lists.specs.Span.{least, greatest}

pub least_of_none : least [] ≡ 0
unfolding least
least_of_none = refl

pub least_of_one : (d : ℕ) → least (d ∷ []) ≡ d
unfolding least
least_of_one d = refl

-- of the first two the lesser counts
pub least_of_two : (d e : ℕ) (ds : List ℕ) → least (d ∷ e ∷ ds) ≡ least (min d e ∷ ds)
unfolding least
least_of_two d e [] = refl
least_of_two d e (f ∷ ds) = omega arith

-- ---- no element is below the least or above the greatest

pub least_is_no_more : (ds : List ℕ) (k : ℕ) → k < length ds → least ds ≤ get_or ds k 0
unfolding least
least_is_no_more [] k h = absurd (omega arith)
least_is_no_more (d ∷ []) zero h = omega arith
least_is_no_more (d ∷ []) (suc k) h = absurd (omega arith)
least_is_no_more (d ∷ e ∷ ds) zero h = omega arith
least_is_no_more (d ∷ e ∷ ds) (suc k) h = let rest = least_is_no_more (e ∷ ds) k (omega arith) in omega arith

pub greatest_is_no_less : (ds : List ℕ) (k : ℕ) → k < length ds → get_or ds k 0 ≤ greatest ds
unfolding greatest
greatest_is_no_less [] k h = absurd (omega arith)
greatest_is_no_less (d ∷ ds) zero h = omega arith
greatest_is_no_less (d ∷ ds) (suc k) h = let rest = greatest_is_no_less ds k (omega arith) in omega arith

-- ---- they are elements

-- a number stands somewhere in a list
abbrev pub StandsIn : List ℕ → ℕ → Type 0
StandsIn ds x = (k : ℕ) × (k < length ds) × (get_or ds k 0 ≡ x)

-- of an element and one that stands behind it, one: the lesser, and the greater
module _ (d x : ℕ) (ds : List ℕ) (there : StandsIn ds x) where
  one_is_there : (y : ℕ) (t : Bool) → (t ≡ true → y ≡ d) → (t ≡ false → y ≡ x) → StandsIn (d ∷ ds) y
  one_is_there y true here behind = (0, omega arith, sym (here refl))
  one_is_there y false here behind = (suc there.0, omega (arith, there.1), there.2 ∙ sym (behind refl))

  lesser_is_there : StandsIn (d ∷ ds) (min d x)
  lesser_is_there = one_is_there _ (leb d x) (λ q. omega (arith, leb-true d x q)) (λ q. omega (arith, leb-false d x q))

  greater_is_there : StandsIn (d ∷ ds) (max d x)
  greater_is_there = one_is_there _ (leb x d) (λ q. omega (arith, leb-true x d q)) (λ q. omega (arith, leb-false x d q))

pub least_is_of_one : (ds : List ℕ) → 0 < length ds → StandsIn ds (least ds)
unfolding least
least_is_of_one [] h = absurd (omega arith)
least_is_of_one (d ∷ []) h = (0, omega arith, refl)
least_is_of_one (d ∷ e ∷ ds) h = lesser_is_there d _ (e ∷ ds) (least_is_of_one (e ∷ ds) (omega arith))

pub greatest_is_of_one : (ds : List ℕ) → 0 < length ds → StandsIn ds (greatest ds)
unfolding greatest
greatest_is_of_one [] h = absurd (omega arith)
greatest_is_of_one (d ∷ []) h = (0, omega arith, omega arith)
greatest_is_of_one (d ∷ e ∷ ds) h = greater_is_there d _ (e ∷ ds) (greatest_is_of_one (e ∷ ds) (omega arith))

-- ---- lists joined

pub least-append
    : (d : ℕ) (ds : List ℕ) (e : ℕ) (es : List ℕ)
    → least ((d ∷ ds) ++ (e ∷ es)) ≡ min (least (d ∷ ds)) (least (e ∷ es))
unfolding least
least-append d [] e es = refl
least-append d (c ∷ ds) e es = let rest = least-append c ds e es in omega arith

pub greatest-append : (ds es : List ℕ) → greatest (ds ++ es) ≡ max (greatest ds) (greatest es)
unfolding greatest
greatest-append [] es = sym (zero-max (greatest es))
greatest-append (d ∷ ds) es = let rest = greatest-append ds es in omega arith

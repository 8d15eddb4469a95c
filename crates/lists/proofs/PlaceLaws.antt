-- Laws of the lowest place: an element that fails the test moves it on by one, and one that passes ends the search.
use Prim.Native.Nat.{ℕ, zero, suc, ◌+◌, ◌<◌, ◌≤◌, zero-le, suc-le-suc}
use mathlib.Core.Path.{◌≡◌, refl, sym, ap, ◌∙◌}
use mathlib.Core.Bool.{Bool, true, false, cond, ◌&&◌, ◌||◌, false≢true, or-true, or_assoc, and_assoc}
use mathlib.Core.List.{List, [], ◌∷◌, ◌++◌}
use mathlib.Mathlib.Data.Bool.Basic.{or-eq-false-eq-eq-false-and-eq-false}
use native.Mathlib.Nat.{add-zero, not-suc-le-zero, le_of_suc-le-suc}
use native.Mathlib.Numerals.{add-one}
use native.Mathlib.Omega.{arith}
use lib.ListN.{length, get_or, drop, drop_of_length-le}
use lib.Seq.{drop-cons}
use Rattle.lists.specs.Place.{anywhere, everywhere, lowest}
use Rattle.lists.proofs.BoolLaws.{both}

module _ {A : Type 0} (f : A → Bool) where
  -- ---- one element more at the front

  pub lowest_of_passing : (x : A) (xs : List A) → f x ≡ true → lowest f (x ∷ xs) ≡ 0
  unfolding lowest
  lowest_of_passing x xs e = rw e

  pub lowest_of_failing : (x : A) (xs : List A) → f x ≡ false → lowest f (x ∷ xs) ≡ suc (lowest f xs)
  unfolding lowest
  lowest_of_failing x xs e = rw e

  pub anywhere_of_none : anywhere f [] ≡ false
  unfolding anywhere
  anywhere_of_none = refl

  pub anywhere_of_failing : (x : A) (xs : List A) → f x ≡ false → anywhere f (x ∷ xs) ≡ anywhere f xs
  unfolding anywhere
  anywhere_of_failing x xs e = rw e

  pub nowhere_fails_at_first : (x : A) (xs : List A) → anywhere f (x ∷ xs) ≡ false → f x ≡ false
  unfolding anywhere
  nowhere_fails_at_first x xs e = ((or-eq-false-eq-eq-false-and-eq-false (f x) (anywhere f xs)).0 e).0

  pub nowhere_in_rest : (x : A) (xs : List A) → anywhere f (x ∷ xs) ≡ false → anywhere f xs ≡ false
  unfolding anywhere
  nowhere_in_rest x xs e = ((or-eq-false-eq-eq-false-and-eq-false (f x) (anywhere f xs)).0 e).1

  pub everywhere_of_none : everywhere f [] ≡ true
  unfolding everywhere
  everywhere_of_none = refl

  pub everywhere_of_passing : (x : A) (xs : List A) → f x ≡ true → everywhere f (x ∷ xs) ≡ everywhere f xs
  unfolding everywhere
  everywhere_of_passing x xs e = rw e

  pub everywhere_passes_at_first : (x : A) (xs : List A) → everywhere f (x ∷ xs) ≡ true → f x ≡ true
  unfolding everywhere
  everywhere_passes_at_first x xs e = (both (f x) (everywhere f xs) e).0

  pub everywhere_in_rest : (x : A) (xs : List A) → everywhere f (x ∷ xs) ≡ true → everywhere f xs ≡ true
  unfolding everywhere
  everywhere_in_rest x xs e = (both (f x) (everywhere f xs) e).1

  -- ---- the place, and what holds there and below it

  pub below_lowest_fails : (xs : List A) (d : A) (k : ℕ) → k < lowest f xs → f (get_or xs k d) ≡ false
  unfolding lowest
  below_lowest_fails [] d k h = absurd (not-suc-le-zero h)
  below_lowest_fails (x ∷ xs) d zero h =
      (elim (f x) as (λ t. f x ≡ t → 0 < cond t 0 (suc (lowest f xs)) → f x ≡ false)
      [ true ↦ λ e k. absurd (not-suc-le-zero k) | false ↦ λ e k. e ]) refl h
  below_lowest_fails (x ∷ xs) d (suc k) h =
      (elim (f x) as (λ t. suc k < cond t 0 (suc (lowest f xs)) → f (get_or xs k d) ≡ false)
      [ true ↦ λ l. absurd (not-suc-le-zero l) | false ↦ λ l. below_lowest_fails xs d k (le_of_suc-le-suc l) ]) h

  pub passes_at_lowest : (xs : List A) (d : A) → anywhere f xs ≡ true → f (get_or xs (lowest f xs) d) ≡ true
  unfolding lowest anywhere
  passes_at_lowest [] d e = absurd (false≢true e)
  passes_at_lowest (x ∷ xs) d e =
      (elim (f x) as (λ t.
      f x ≡ t → (t || anywhere f xs) ≡ true → f (get_or (x ∷ xs) (cond t 0 (suc (lowest f xs))) d) ≡ true)
      [ true ↦ λ p k. p | false ↦ λ p k. passes_at_lowest xs d k ]) refl e

  -- ---- whether there is one

  pub lowest_of_none : (xs : List A) → anywhere f xs ≡ false → lowest f xs ≡ length xs
  unfolding lowest anywhere
  lowest_of_none [] e = refl
  lowest_of_none (x ∷ xs) e =
      lowest_of_failing x xs (nowhere_fails_at_first x xs e) ∙ ap suc (lowest_of_none xs (nowhere_in_rest x xs e))

  pub lowest_of_some : (xs : List A) → anywhere f xs ≡ true → lowest f xs < length xs
  unfolding lowest anywhere
  lowest_of_some [] e = absurd (false≢true e)
  lowest_of_some (x ∷ xs) e =
      (elim (f x) as (λ t. (t || anywhere f xs) ≡ true → cond t 0 (suc (lowest f xs)) < suc (length xs))
      [ true ↦ λ k. suc-le-suc zero-le | false ↦ λ k. suc-le-suc (lowest_of_some xs k) ]) e

  pub anywhere_of_entry : (xs : List A) (d : A) (k : ℕ) → k < length xs → f (get_or xs k d) ≡ true → anywhere f xs ≡ true
  unfolding anywhere
  anywhere_of_entry [] d k h e = absurd (not-suc-le-zero h)
  anywhere_of_entry (x ∷ xs) d zero h e = rw e
  anywhere_of_entry (x ∷ xs) d (suc k) h e = rw (anywhere_of_entry xs d k (le_of_suc-le-suc h) e) (or-true (f x))

  pub anywhere-append : (xs ys : List A) → anywhere f (xs ++ ys) ≡ (anywhere f xs || anywhere f ys)
  unfolding anywhere
  anywhere-append [] ys = refl
  anywhere-append (x ∷ xs) ys = rw (anywhere-append xs ys) (sym (or_assoc (f x) _ _))

  -- ---- at every place

  pub everywhere-append : (xs ys : List A) → everywhere f (xs ++ ys) ≡ (everywhere f xs && everywhere f ys)
  unfolding everywhere
  everywhere-append [] ys = refl
  everywhere-append (x ∷ xs) ys = rw (everywhere-append xs ys) (sym (and_assoc (f x) _ _))

  pub everywhere_at_entry : (xs : List A) (d : A) (k : ℕ) → everywhere f xs ≡ true → k < length xs
      → f (get_or xs k d) ≡ true
  everywhere_at_entry [] d k e h = absurd (not-suc-le-zero h)
  everywhere_at_entry (x ∷ xs) d zero e h = everywhere_passes_at_first x xs e
  everywhere_at_entry (x ∷ xs) d (suc k) e h =
      everywhere_at_entry xs d k (everywhere_in_rest x xs e) (le_of_suc-le-suc h)

  -- ---- a scan from place k, whose invariant is `k + lowest f (drop k xs) ≡ lowest f xs`

  pub lowest_from_passing_is_here : (xs : List A) (d : A) (k : ℕ) → k < length xs → f (get_or xs k d) ≡ true
      → k + lowest f (drop k xs) ≡ k
  lowest_from_passing_is_here xs d k h e = rw (drop-cons xs k d h, lowest_of_passing, add-zero)

  pub lowest_from_failing_is_further : (xs : List A) (d : A) (k : ℕ) → k < length xs → f (get_or xs k d) ≡ false
      → k + lowest f (drop k xs) ≡ k + 1 + lowest f (drop (k + 1) xs)
  lowest_from_failing_is_further xs d k h e = rw (drop-cons xs k d h, lowest_of_failing, add-one) (omega arith)

  pub lowest_from_end_is_here : (xs : List A) (k : ℕ) → length xs ≤ k → k + lowest f (drop k xs) ≡ k
  unfolding lowest
  lowest_from_end_is_here xs k h = rw (drop_of_length-le xs h) (add-zero k)

-- where one test passes everywhere, a test that fails with it passes nowhere
pub everywhere_is_nowhere_else : {A : Type 0} (f g : A → Bool) → ((x : A) → f x ≡ true → g x ≡ false)
    → (xs : List A) → everywhere f xs ≡ true → anywhere g xs ≡ false
everywhere_is_nowhere_else f g apart [] e = anywhere_of_none g
everywhere_is_nowhere_else f g apart (x ∷ xs) e =
    anywhere_of_failing g x xs (apart x (everywhere_passes_at_first f x xs e))
    ∙ everywhere_is_nowhere_else f g apart xs (everywhere_in_rest f x xs e)

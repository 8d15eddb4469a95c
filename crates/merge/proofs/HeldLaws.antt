-- What the merged set has of a number is what is taken of the two sets: each number is met once, in ascending order,
-- and only its own sectors stand there. Rests on no axiom.
use Prim.Native.Nat.{ℕ, zero, suc, ◌+◌, ◌<◌}
use mathlib.Core.Path.{◌≡◌, refl, ap, ap₂, ◌∙◌, sym}
use mathlib.Core.Bool.{Bool, true, false, cond, true≢false}
use mathlib.Core.List.{List, [], ◌∷◌, ◌++◌, flat_map}
use native.Mathlib.Omega.{arith}
use borrow.Author.Tests.{eqb-true, eq-eqb, ne_eqb}
use lib.Dec.{eqb}
use Rattle.lists.specs.Table.{tabulated}
use Rattle.sets.specs.Set.{Sector}
use Rattle.sets.specs.Held.{Held, Nothing, One, Twice, with_copy, held_of}
use Rattle.sets.specs.Held.{numbers, is_twice}
use Rattle.sets.proofs.IndexLaws.{joined, joined_assoc, joined_nothing}
use Rattle.merge.specs.Merge.{taken, as_list, taken_at, merged}
use Rattle.merge.proofs.OutputLaws.{taken_keeps}

-- ---- a sector more at the front

module _ (n : ℕ) (s : Sector) (ss : List Sector) where
  pub held_of_own_first : s.number ≡ n → held_of n (s ∷ ss) ≡ with_copy s (held_of n ss)
  unfolding held_of
  held_of_own_first e = rw (eq-eqb s.number n e)

  pub held_of_other_first : (s.number ≡ n → ⊥) → held_of n (s ∷ ss) ≡ held_of n ss
  unfolding held_of
  held_of_other_first d = rw (ne_eqb s.number n d)

pub held_of_none : (n : ℕ) → held_of n [] ≡ Nothing
unfolding held_of
held_of_none n = refl

-- ---- a set in two parts

held_of-append : (n : ℕ) (ss ts : List Sector) → held_of n (ss ++ ts) ≡ joined (held_of n ss) (held_of n ts)
unfolding held_of
held_of-append n [] ts = refl
held_of-append n (s ∷ ss) ts =
    rw (held_of-append n ss ts) (elim (eqb s.number n) as
    (λ t. cond t (with_copy s (joined (held_of n ss) (held_of n ts))) (joined (held_of n ss) (held_of n ts))
    ≡ joined (cond t (with_copy s (held_of n ss)) (held_of n ss)) (held_of n ts))
    [ true ↦ sym (joined_assoc (One s) (held_of n ss) (held_of n ts)) | false ↦ refl ])

-- ---- a sector's own number

abbrev pub has_number : ℕ → Held → Bool
has_number n Nothing = true
has_number n (One s) = eqb s.number n
has_number n Twice = true

copy_has_number : (n : ℕ) (s : Sector) (h : Held) → eqb s.number n ≡ true → has_number n (with_copy s h) ≡ true
copy_has_number n s Nothing e = e
copy_has_number n s (One t) e = refl
copy_has_number n s Twice e = refl

pub held_has_number : (n : ℕ) (ss : List Sector) → has_number n (held_of n ss) ≡ true
unfolding held_of
held_has_number n [] = refl
held_has_number n (s ∷ ss) =
    (elim (eqb s.number n) as
    (λ t. eqb s.number n ≡ t → has_number n (cond t (with_copy s (held_of n ss)) (held_of n ss)) ≡ true)
    [ true ↦ λ e. copy_has_number n s (held_of n ss) e | false ↦ λ e. held_has_number n ss ]) refl

held_of_own : (n : ℕ) (h : Held) → has_number n h ≡ true → is_twice h ≡ false → held_of n (as_list h) ≡ h
unfolding held_of
held_of_own n Nothing e f = refl
held_of_own n (One s) e f = rw e
held_of_own n Twice e f = absurd (true≢false f)

held_of_other : (m n : ℕ) (h : Held) → (m ≡ n → ⊥) → has_number m h ≡ true → held_of n (as_list h) ≡ Nothing
unfolding held_of
held_of_other m n Nothing d e = refl
held_of_other m n (One s) d e = rw (eqb-true s.number m e, ne_eqb m n d)
held_of_other m n Twice d e = refl

-- ---- numbers in ascending order

module _ (f : ℕ → Held) (own : (j : ℕ) → has_number j (f j) ≡ true) where
  abbrev from : ℕ → ℕ → List Sector
  from k m = flat_map (λ j. as_list (f j)) (tabulated (λ j. j) k m)

  held_below : (n k m : ℕ) → n < k → held_of n (from k m) ≡ Nothing
  unfolding flat_map tabulated held_of
  held_below n k zero h = refl
  held_below n k (suc m) h =
      held_of-append n (as_list (f k)) (from (suc k) m)
      ∙ ap₂ joined (held_of_other k n (f k) (λ e. omega arith) (own k)) (held_below n (suc k) m (omega arith))

  held_within
      : (n k d m : ℕ)
      → n ≡ k + d
      → d < m
      → is_twice (f n) ≡ false
      → held_of n (from k m) ≡ f n
  unfolding flat_map tabulated held_of
  held_within n k d zero e h once = absurd (omega arith)
  held_within n k zero (suc m) e h once =
      let here : k ≡ n = omega arith in
      held_of-append n (as_list (f k)) (from (suc k) m)
      ∙ ap₂ joined (ap (λ (j : ℕ). held_of n (as_list (f j))) here ∙ held_of_own n (f n) (own n) once)
      (held_below n (suc k) m (omega arith))
      ∙ joined_nothing (f n)
  held_within n k (suc d) (suc m) e h once =
      held_of-append n (as_list (f k)) (from (suc k) m)
      ∙ ap₂ joined (held_of_other k n (f k) (λ q. omega arith) (own k))
      (held_within n (suc k) d m (omega arith) (omega arith) once)

-- ---- the merged set

module _ (first second : List Sector) where
  pub taken_own : (n : ℕ) → has_number n (taken (held_of n first) (held_of n second)) ≡ true
  taken_own n =
      taken_keeps (λ h. has_number n h ≡ true) _ _ (held_has_number n first) (held_has_number n second)

  module _
      (n : ℕ) (once : (is_twice (held_of n first) ≡ false) × (is_twice (held_of n second) ≡ false))
    where
      pub taken_once : is_twice (taken (held_of n first) (held_of n second)) ≡ false
      taken_once = taken_keeps (λ h. is_twice h ≡ false) _ _ once.0 once.1

      pub held_of_merged : n < 256 → held_of n (merged first second) ≡ taken (held_of n first) (held_of n second)
      unfolding merged taken_at numbers
      held_of_merged h =
          held_within
          (λ j. taken (held_of j first) (held_of j second)) taken_own n 0 n 256 (omega arith) (omega arith) taken_once

-- Sectors of a set in the order of their numbers: what a set has of a number does not depend on its order, and a set
-- whose numbers ascend is what it has of each number in turn. Rests on no axiom.
use Prim.Native.Nat.{ℕ, zero, suc, ◌+◌, ◌≤◌, ◌<◌}
use mathlib.Core.Path.{◌≡◌, refl, sym, ap, ap₂, ◌∙◌}
use mathlib.Core.Bool.{Bool, true, false, cond, true≢false}
use mathlib.Core.List.{List, [], ◌∷◌, ◌++◌, flat_map}
use native.Mathlib.Decide.{dec_lt}
use native.Mathlib.Omega.{arith}
use borrow.Author.Tests.{eqb-true, eqb-false, eq-eqb, ne_eqb}
use lib.Dec.{eqb}
use Rattle.lists.specs.Table.{tabulated}
use Rattle.sets.specs.Set.{Sector}
use Rattle.sets.specs.Held.{Held, Nothing, One, Twice, with_copy, held_of, is_twice, numbers}
use Rattle.merge.specs.Merge.{as_list}

-- ---- in any order

copies_commute : (a b : Sector) (h : Held) → with_copy a (with_copy b h) ≡ with_copy b (with_copy a h)
copies_commute a b Nothing = refl
copies_commute a b (One t) = refl
copies_commute a b Twice = refl

swapped
    : (t u : Bool) (a b : Sector) (h : Held)
    → cond t (with_copy a (cond u (with_copy b h) h)) (cond u (with_copy b h) h)
    ≡ cond u (with_copy b (cond t (with_copy a h) h)) (cond t (with_copy a h) h)
swapped true true a b h = copies_commute a b h
swapped true false a b h = refl
swapped false true a b h = refl
swapped false false a b h = refl

pub held_beside
    : (n : ℕ) (before : List Sector) (s : Sector) (after : List Sector)
    → held_of n (before ++ (s ∷ after)) ≡ held_of n (s ∷ (before ++ after))
unfolding held_of
held_beside n [] s after = refl
held_beside n (b ∷ before) s after =
    rw (held_beside n before s after) (swapped (eqb b.number n) (eqb s.number n) b s (held_of n (before ++ after)))

-- ---- none twice

copy_is_there : (s : Sector) (h : Held) → with_copy s h ≡ Nothing → ⊥
copy_is_there s Nothing e = true≢false (ap is_nothing e ∙ refl)
  where
    is_nothing : Held → Bool
    is_nothing Nothing = false
    is_nothing (One t) = true
    is_nothing Twice = true
copy_is_there s (One t) e = true≢false (ap is_twice e)
copy_is_there s Twice e = true≢false (ap is_twice e)

one_copy : (s : Sector) (h : Held) → is_twice (with_copy s h) ≡ false → h ≡ Nothing
one_copy s Nothing e = refl
one_copy s (One t) e = absurd (true≢false e)
one_copy s Twice e = absurd (true≢false e)

module _ (s : Sector) (ss : List Sector) where
  -- the first one's number stands nowhere behind it
  pub first_alone : is_twice (held_of s.number (s ∷ ss)) ≡ false → held_of s.number ss ≡ Nothing
  unfolding held_of
  first_alone e = one_copy s (held_of s.number ss) (rw (eq-eqb s.number s.number refl) at e)

  pub rest_once : (n : ℕ) → is_twice (held_of n (s ∷ ss)) ≡ false → is_twice (held_of n ss) ≡ false
  unfolding held_of
  rest_once n =
      elim (eqb s.number n) as (λ t.
      is_twice (cond t (with_copy s (held_of n ss)) (held_of n ss)) ≡ false → is_twice (held_of n ss) ≡ false) [
        | true ↦ λ e. ap is_twice (one_copy s (held_of n ss) e)
        | false ↦ λ e. e
      ]

  pub none_there : (n : ℕ) → held_of n (s ∷ ss) ≡ Nothing → (s.number ≡ n → ⊥) × (held_of n ss ≡ Nothing)
  unfolding held_of
  none_there n =
      elim (eqb s.number n) as (λ t.
      eqb s.number n ≡ t
      → cond t (with_copy s (held_of n ss)) (held_of n ss) ≡ Nothing
      → (s.number ≡ n → ⊥) × (held_of n ss ≡ Nothing)) [
        | true ↦ λ is e. absurd (copy_is_there s (held_of n ss) e)
        | false ↦ λ other e. (eqb-false s.number n other, e)
      ]
      refl

  pub other_than_first : (n : ℕ) → (s.number ≡ n → ⊥) → held_of n (s ∷ ss) ≡ held_of n ss
  unfolding held_of
  other_than_first n other = rw (ne_eqb s.number n other)

  pub only_first : held_of s.number ss ≡ Nothing → held_of s.number (s ∷ ss) ≡ One s
  unfolding held_of
  only_first none = rw (eq-eqb s.number s.number refl, none)

-- ---- ascending

abbrev pub NumbersUp : ℕ → List Sector → Type 0
NumbersUp k [] = Unit {0}
NumbersUp k (s ∷ ss) = (k ≤ s.number) × (s.number < 256) × NumbersUp (suc s.number) ss

none_below : (n k : ℕ) (ss : List Sector) → NumbersUp k ss → n < k → held_of n ss ≡ Nothing
unfolding held_of
none_below n k [] up h = refl
none_below n k (s ∷ ss) (low, high, up) h =
    rw (ne_eqb s.number n (λ e. omega arith)) (none_below n (suc s.number) ss up (omega arith))

agree_from
    : {A : Type 0} (f g : ℕ → List A) (k m : ℕ)
    → ((n : ℕ) → k ≤ n → f n ≡ g n)
    → flat_map f (tabulated (λ n. n) k m) ≡ flat_map g (tabulated (λ n. n) k m)
unfolding flat_map tabulated
agree_from f g k zero same = refl
agree_from f g k (suc m) same =
    ap₂ ◌++◌ (same k (omega arith)) (agree_from f g (suc k) m (λ n h. same n (omega arith)))

abbrev turns : List Sector → ℕ → List Sector
turns ss n = as_list (held_of n ss)

in_order_from
    : (m k : ℕ) (ss : List Sector) → k + m ≡ 256 → NumbersUp k ss → flat_map (turns ss) (tabulated (λ n. n) k m) ≡ ss
unfolding flat_map tabulated held_of
in_order_from zero k [] e up = refl
in_order_from zero k (s ∷ ss) e (low, high, up) = absurd (omega arith)
in_order_from (suc m) k [] e up = in_order_from m (suc k) [] (omega arith) tt
in_order_from (suc m) k (s ∷ ss) e (low, high, up) =
    elim (dec_lt k s.number) [
      | yes later ↦
          let none = none_below k (suc k) (s ∷ ss) (later, high, up) (omega arith) in
          ap₂ ◌++◌ (ap as_list none) (in_order_from m (suc k) (s ∷ ss) (omega arith) (later, high, up))
      | no here ↦
          let is : s.number ≡ k = omega arith in
          let first : held_of k (s ∷ ss) ≡ One s =
          ap (λ (n : ℕ). held_of n (s ∷ ss)) (sym is)
          ∙ only_first s ss (none_below s.number (suc s.number) ss up (omega arith)) in
          ap₂ ◌++◌ (ap as_list first)
          (agree_from (turns (s ∷ ss)) (turns ss) (suc k) m (λ n h.
          ap as_list (other_than_first s ss n (λ same. omega arith)))
          ∙ in_order_from m (suc k) ss (omega arith) (rw (← ap suc is) up))
    ]

pub in_order_lem : (ss : List Sector) → NumbersUp 0 ss → flat_map (turns ss) numbers ≡ ss
unfolding numbers
in_order_lem ss up = in_order_from 256 0 ss (omega arith) up

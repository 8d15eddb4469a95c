-- Which of two entries goes before the other, and an entry put among others that are in order: by cases of the two keys,
-- then by induction on the others. Rests on no axiom.
use Prim.Native.Nat.{ℕ, ◌≤◌, ◌<◌}
use mathlib.Core.Path.{◌≡◌, refl, sym, ◌∙◌}
use mathlib.Core.Bool.{Bool, true, false, cond, not, ◌&&◌, ◌||◌, true≢false}
use mathlib.Core.List.{List, [], ◌∷◌, ◌++◌}
use mathlib.Core.Logic.{◌⊎◌, inl, inr, ⊎_elim}
use mathlib.Mathlib.Data.Bool.Basic.{eq-false_of_not-eq-true}
use native.Mathlib.Omega.{arith}
use borrow.Author.Tests.{ltb-true, ltb-false, eqb-true, le-ltb, eq-eqb, ne_eqb, eqb-false, not-true}
use lib.Dec.{eqb, ltb}
use Rattle.lists.specs.Place.{everywhere}
use Rattle.lists.proofs.BoolLaws.{both}
use Rattle.lists.proofs.PlaceLaws.{everywhere_of_none, everywhere_of_passing, everywhere_passes_at_first}
use Rattle.lists.proofs.PlaceLaws.{everywhere_in_rest, everywhere-append}
use Rattle.entries.specs.declared.Entry.{Entry}
use Rattle.track.specs.Order.{lower_keys, is_before, put_among, Ascending}

-- ---- two sector numbers, each with an ID place

one_of : (t u v : Bool) → (t || (u && v)) ≡ true → (t ≡ true) ⊎ ((u ≡ true) × (v ≡ true))
one_of true u v e = inl refl
one_of false u v e = inr (both u v e)

none_of : (t u v : Bool) → (t || (u && v)) ≡ false → (t ≡ false) × (u ≡ true → v ≡ false)
none_of true u v e = absurd (true≢false e)
none_of false true v e = (refl, λ h. e)
none_of false false v e = (refl, λ h. absurd (true≢false (sym h)))

or_no : (t : Bool) → t ≡ (t || false)
or_no true = refl
or_no false = refl

by_no_other : (t : Bool) → (t ≡ false → ⊥) → t ≡ true
by_no_other true h = refl
by_no_other false h = absurd (h refl)

module _ (n i m j : ℕ) where
  keys_mean : lower_keys n i m j ≡ true → (n < m) ⊎ ((n ≡ m) × (i < j))
  unfolding lower_keys
  keys_mean e =
      ⊎_elim (λ below. inl (ltb-true n m below)) (λ same. inr (eqb-true n m same.0, ltb-true i j same.1))
      (one_of (ltb n m) (eqb n m) (ltb i j) e)

  other_keys_mean : lower_keys n i m j ≡ false → (m ≤ n) × (n ≡ m → j ≤ i)
  unfolding lower_keys
  other_keys_mean e =
      let (above, later) = none_of (ltb n m) (eqb n m) (ltb i j) e in
      (ltb-false n m above, λ same. ltb-false i j (later (eq-eqb n m same)))

  pub later_place : n ≤ m → i < j → lower_keys n i m j ≡ true
  later_place h below =
      by_no_other (lower_keys n i m j) (λ no.
      let (above, later) = other_keys_mean no in
      let at_most = later (omega arith) in
      omega arith)

  -- where the numbers are equal, the places decide
  pub same_number : n ≡ m → ltb i j ≡ lower_keys n i m j
  unfolding lower_keys
  same_number same = rw (le-ltb n m (omega arith), eq-eqb n m same)

  pub other_number : (n ≡ m → ⊥) → ltb n m ≡ lower_keys n i m j
  unfolding lower_keys
  other_number apart = rw (ne_eqb n m apart) (or_no (ltb n m))

-- ---- two entries

module _ (a b : Entry) where
  pub before_is_not_behind : is_before a b ≡ true → is_before b a ≡ false
  unfolding is_before
  before_is_not_behind e =
      eq-false_of_not-eq-true (λ f.
      ⊎_elim (λ x. ⊎_elim (λ y. omega arith) (λ y. omega arith) (keys_mean _ _ _ _ f))
      (λ x. ⊎_elim (λ y. omega arith) (λ y. omega arith) (keys_mean _ _ _ _ f)) (keys_mean _ _ _ _ e))

  pub one_is_before : (a.place ≡ b.place → ⊥) → is_before a b ≡ false → is_before b a ≡ true
  unfolding is_before
  one_is_before apart e =
      by_no_other _ (λ f.
      let (above, later) = other_keys_mean _ _ _ _ e in
      let (below, sooner) = other_keys_mean _ _ _ _ f in
      let at_most = later (omega arith) in
      let at_least_lem = sooner (omega arith) in
      apart (omega arith))

  pub before_one_behind : (c : Entry) → is_before a b ≡ true → is_before b c ≡ true → is_before a c ≡ true
  unfolding is_before
  before_one_behind c e f =
      by_no_other _ (λ no.
      let (above, later) = other_keys_mean _ _ _ _ no in
      ⊎_elim (λ x. ⊎_elim (λ y. omega arith) (λ y. omega arith) (keys_mean _ _ _ _ f))
      (λ x.
      ⊎_elim (λ y. omega arith)
      (λ y.
      let at_most = later (omega arith) in
      omega arith)
      (keys_mean _ _ _ _ f))
      (keys_mean _ _ _ _ e))

-- ---- an entry put among others

-- two entries of different ID places
unfoldable pub apart_from : Entry → Entry → Bool
apart_from a b = not (eqb a.place b.place)

pub apart_means : (a b : Entry) → apart_from a b ≡ true → a.place ≡ b.place → ⊥
unfolding apart_from
apart_means a b e = eqb-false _ _ (not-true _ e)

module _ (f : Entry → Bool) (e : Entry) where
  pub put_everywhere : (xs : List Entry) → f e ≡ true → everywhere f xs ≡ true → everywhere f (put_among e xs) ≡ true
  unfolding put_among
  put_everywhere [] h all = everywhere_of_passing f e [] h ∙ all
  put_everywhere (x ∷ xs) h all =
      elim (is_before e x) as (λ t. everywhere f (cond t (e ∷ x ∷ xs) (x ∷ put_among e xs)) ≡ true) [
        | true ↦ everywhere_of_passing f e (x ∷ xs) h ∙ all
        | false ↦ everywhere_of_passing f x _ (everywhere_passes_at_first f x xs all)
            ∙ put_everywhere xs h (everywhere_in_rest f x xs all)
      ]

  -- what stands on both sides of it
  pub beside : (bs cs : List Entry) → everywhere f (bs ++ (e ∷ cs)) ≡ true → (f e ≡ true) × (everywhere f (bs ++ cs) ≡ true)
  beside bs cs all =
      let (front, back) =
      both (everywhere f bs) (everywhere f (e ∷ cs)) (sym (everywhere-append f bs (e ∷ cs)) ∙ all) in (
        everywhere_passes_at_first f e cs back,
        everywhere-append f bs cs ∙ rw (front, everywhere_in_rest f e cs back),
      )

pub all_behind
    : (e x : Entry) (xs : List Entry)
    → is_before e x ≡ true
    → everywhere (is_before x) xs ≡ true
    → everywhere (is_before e) xs ≡ true
all_behind e x [] h all = everywhere_of_none (is_before e)
all_behind e x (y ∷ ys) h all =
    everywhere_of_passing (is_before e) y ys
    (before_one_behind e x y h (everywhere_passes_at_first (is_before x) y ys all))
    ∙ all_behind e x ys h (everywhere_in_rest (is_before x) y ys all)

pub put_ascends
    : (e : Entry) (xs : List Entry) → Ascending xs → everywhere (apart_from e) xs ≡ true → Ascending (put_among e xs)
unfolding put_among
put_ascends e [] asc apart = (everywhere_of_none (is_before e), tt)
put_ascends e (x ∷ xs) (first, rest) apart =
    elim (is_before e x) as (λ t. is_before e x ≡ t → Ascending (cond t (e ∷ x ∷ xs) (x ∷ put_among e xs))) [
      | true ↦ λ q. (everywhere_of_passing (is_before e) x xs q ∙ all_behind e x xs q first, (first, rest))
      | false ↦ λ q.
          let other = apart_means e x (everywhere_passes_at_first (apart_from e) x xs apart) in (
            put_everywhere (is_before x) e xs (one_is_before e x other q) first,
            put_ascends e xs rest (everywhere_in_rest (apart_from e) x xs apart),
          )
    ]
    refl

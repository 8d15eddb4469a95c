-- A set by itself and its merge with the empty set are turned away alike: a set of at most 32 sectors has at most 32
-- different numbers, and with nothing beside it a number is at odds where it is there twice. Rests on no axiom.
use Prim.Native.Nat.{ℕ, zero, suc, ◌+◌, ◌≤◌, ◌<◌}
use mathlib.Core.Path.{◌≡◌, refl, ◌∙◌, fun_ext}
use mathlib.Core.Bool.{Bool, true, false, cond, ◌||◌, or-false}
use mathlib.Core.List.{List, [], ◌∷◌}
use native.Mathlib.Omega.{arith}
use borrow.Author.Tests.{eqb-true, ltb-false, le-ltb}
use lib.Dec.{eqb, ltb}
use lib.ListN.{length}
use Rattle.lists.specs.Place.{anywhere, lowest}
use Rattle.lists.specs.Table.{tabulated}
use Rattle.refusal.specs.Answer.{Answer, accepted, refuse_if, first_refusal}
use Rattle.sets.specs.Set.{Sector, is_misfit_set, sectors_in, set_of, set_within}
use Rattle.sets.specs.Held.{Held, Nothing, One, Twice, with_copy, held_of, how_many}
use Rattle.sets.specs.Held.{numbers}
use Rattle.sets.specs.Alone.{is_twice_in, set_rule}
use Rattle.sets.proofs.NumberLaws.{counts_agree, each_number}
use Rattle.merge.specs.Merge.{is_there, in_either}
use Rattle.merge.specs.Merge.{is_crowded, at_odds_at}
use Rattle.merge.specs.Rule.{room_rule, merge_rule, result}
use Rattle.merge.proofs.ChoiceLaws.{odds_with_nothing}
use Rattle.merge.proofs.AcceptLaws.{empty_fits, acceptance_says}
use Rattle.merge.proofs.AgainLaws.{held_again}
use Rattle.merge.proofs.OnceLaws.{with_nothing}

-- ---- as many different numbers as sectors, at most

either_counted
    : (f g : ℕ → Bool) (ns : List ℕ) → how_many (λ n. f n || g n) ns ≤ how_many f ns + how_many g ns
unfolding how_many
either_counted f g [] = omega arith
either_counted f g (n ∷ ns) =
    by (f n) (g n) (how_many (λ k. f k || g k) ns) (how_many f ns) (how_many g ns) (either_counted f g ns)
  where
    by
        : (t u : Bool) (a b c : ℕ)
        → a ≤ b + c
        → cond (t || u) (suc a) a ≤ cond t (suc b) b + cond u (suc c) c
    by true true a b c h = omega arith
    by true false a b c h = omega arith
    by false true a b c h = omega arith
    by false false a b c h = h

-- a number stands once among the numbers from k on, and not at all where it is below k
one_counted
    : (number k m : ℕ)
    → (how_many (eqb number) (tabulated (λ n. n) k m) ≤ 1)
    × (number < k → how_many (eqb number) (tabulated (λ n. n) k m) ≡ 0)
unfolding how_many tabulated
one_counted number k zero = (omega arith, λ h. refl)
one_counted number k (suc m) = by (eqb number k) refl (one_counted number (suc k) m)
  where
    by
        : (t : Bool)
        → eqb number k ≡ t
        → (how_many (eqb number) (tabulated (λ n. n) (suc k) m) ≤ 1)
        × (number < suc k → how_many (eqb number) (tabulated (λ n. n) (suc k) m) ≡ 0)
        → (cond t (suc (how_many (eqb number) (tabulated (λ n. n) (suc k) m)))
        (how_many (eqb number) (tabulated (λ n. n) (suc k) m)) ≤ 1)
        × (number < k
        → cond t (suc (how_many (eqb number) (tabulated (λ n. n) (suc k) m)))
        (how_many (eqb number) (tabulated (λ n. n) (suc k) m))
        ≡ 0)
    by true e r =
        let here = eqb-true number k e in
        let none = r.1 (omega arith) in
        (omega (arith, none), λ h. absurd (omega arith))
    by false e r = (r.0, λ h. r.1 (omega arith))

copy_is_there : (s : Sector) (h : Held) → is_there (with_copy s h) ≡ true
copy_is_there s Nothing = refl
copy_is_there s (One t) = refl
copy_is_there s Twice = refl

there_with_first
    : (n : ℕ) (s : Sector) (ss : List Sector)
    → is_there (held_of n (s ∷ ss)) ≡ (eqb s.number n || is_there (held_of n ss))
unfolding held_of
there_with_first n s ss =
    elim (eqb s.number n) as
    (λ t. is_there (cond t (with_copy s (held_of n ss)) (held_of n ss)) ≡ (t || is_there (held_of n ss)))
    [ true ↦ copy_is_there s (held_of n ss) | false ↦ refl ]

none_counted : how_many (λ n. is_there (held_of n [])) numbers ≡ 0
unfolding how_many held_of
none_counted = each_number (λ ns. how_many (λ n. is_there (held_of n [])) ns ≡ 0) refl (λ n ns h r. r)

pub numbers_at_most_sectors : (ss : List Sector) → how_many (λ n. is_there (held_of n ss)) numbers ≤ length ss
unfolding numbers
numbers_at_most_sectors [] = omega (arith, none_counted)
numbers_at_most_sectors (s ∷ ss) =
    let rest = numbers_at_most_sectors ss in
    let one = (one_counted s.number 0 256).0 in
    let both = either_counted (eqb s.number) (λ n. is_there (held_of n ss)) numbers in
    rw (counts_agree _ (λ n. eqb s.number n || is_there (held_of n ss)) (λ n h. there_with_first n s ss))
    (omega (arith, rest, one, both))

-- ---- the tests of the merge with the empty set

module _ (bs : List ℕ) where
  abbrev ss : List Sector
  ss = sectors_in bs

  nothing_else : (n : ℕ) → held_of n (sectors_in []) ≡ Nothing
  unfolding held_of sectors_in set_of set_within
  nothing_else n = refl

  crowded_alone : is_crowded ss (sectors_in []) ≡ ltb 32 (length ss)
  unfolding is_crowded in_either
  crowded_alone = by (ltb 32 (length ss)) refl
    where
      by
          : (t : Bool)
          → ltb 32 (length ss) ≡ t
          → (t || ltb 32 (length (sectors_in [])) || ltb 32 (how_many (in_either ss (sectors_in [])) numbers)) ≡ t
      by true e = refl
      by false e =
          let few = ltb-false 32 (length ss) e in
          let different = numbers_at_most_sectors ss in
          rw (
            le-ltb 32 _ empty_fits.few,
            counts_agree (in_either ss (sectors_in [])) (λ n. is_there (held_of n ss)) (λ n h.
                rw (nothing_else n) (or-false (is_there (held_of n ss)))),
            le-ltb 32 (how_many (λ n. is_there (held_of n ss)) numbers) (omega (arith, few, different)),
          )

  odds_alone : at_odds_at ss (sectors_in []) ≡ is_twice_in ss
  unfolding at_odds_at is_twice_in
  odds_alone = fun_ext (λ n. rw (nothing_else n) (odds_with_nothing (held_of n ss)))

  in_their_turn
      : (t u w : Bool) (p n : ℕ) (room : Answer)
      → refuse_if (t || false) 13 0 (refuse_if u 15 0 (refuse_if w 17 p room))
      ≡ first_refusal (refuse_if t 13 0 (refuse_if u 15 0 (refuse_if w 17 p (accepted n)))) room
  in_their_turn true u w p n room = refl
  in_their_turn false true w p n room = refl
  in_their_turn false false true p n room = refl
  in_their_turn false false false p n room = refl

  pub merged_with_none : (room : ℕ) → merge_rule bs [] room ≡ first_refusal (set_rule bs) (room_rule ss (sectors_in []) room)
  unfolding merge_rule set_rule
  merged_with_none room =
      rw (empty_fits.whole, crowded_alone, odds_alone)
      (in_their_turn (is_misfit_set bs) (ltb 32 (length ss)) (anywhere (is_twice_in ss) numbers)
      (lowest (is_twice_in ss) numbers) (length ss) (room_rule ss (sectors_in []) room))

  pub result_keeps
      : (room n : ℕ)
      → (merge_rule bs [] room).number ≡ 0
      → n < 256
      → held_of n (sectors_in (result bs [])) ≡ held_of n ss
  result_keeps room n e h =
      held_again bs [] (acceptance_says bs [] room e) n h
      ∙ rw (nothing_else n) (with_nothing (held_of n ss)).1

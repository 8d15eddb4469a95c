-- Merging with the empty set, on either side, or with itself gives the set in order, and the merged set is such a
-- set: what is taken of a number is then what the one set has of it. Rests on no axiom.
use Prim.Native.Nat.{ℕ, ◌<◌, ◌≤◌}
use mathlib.Core.Path.{◌≡◌, refl, ap, fun_ext}
use mathlib.Core.Bool.{Bool, true, false, cond, ◌&&◌, ◌||◌, and-false}
use mathlib.Core.List.{List, [], ◌∷◌, flat_map}
use borrow.Author.Tests.{eq-eqb}
use Rattle.sets.specs.Set.{Sector, sectors_in, set_of, set_within}
use Rattle.sets.specs.Held.{Held, Nothing, One, Twice, held_of, numbers}
use Rattle.sets.specs.Held.{how_many, is_twice}
use Rattle.sets.proofs.NumberLaws.{nowhere_if_never}
use Rattle.sets.proofs.SetRuleLaws.{Fits}
use Rattle.merge.specs.Merge.{better, taken, as_list, taken_at, merged}
use Rattle.merge.specs.Merge.{is_there, in_either, same_bytes, disagree, at_odds, at_odds_at}
use Rattle.merge.specs.Claims.{Takes}
use Rattle.merge.proofs.AcceptLaws.{accepts_takes}

-- ---- one copy with nothing, and with itself

-- what two sets have of a number is what one has of it
abbrev pub Same : Held → Held → Held → Type 0
Same h x y =
    ((is_there x || is_there y) ≡ is_there h) × (taken x y ≡ h) × (is_twice h ≡ false → at_odds x y ≡ false)

pub with_nothing : (h : Held) → Same h h Nothing
unfolding taken at_odds
with_nothing Nothing = (refl, refl, λ e. refl)
with_nothing (One a) = (refl, refl, λ e. refl)
with_nothing Twice = (refl, refl, λ e. e)

same_as_itself : (bs : List ℕ) → same_bytes bs bs ≡ true
unfolding same_bytes
same_as_itself [] = refl
same_as_itself (b ∷ bs) = rw (eq-eqb b b refl, same_as_itself bs)

with_itself : (h : Held) → Same h h h
unfolding taken better at_odds disagree
with_itself Nothing = (refl, refl, λ e. refl)
with_itself (One a) = (
  refl,
  ap One (elim a.holds as (λ t. cond t a (cond t a a) ≡ a) [ true ↦ refl | false ↦ refl ]),
  λ e. rw (eq-eqb a.code a.code refl, same_as_itself a.bytes) (and-false (a.holds && a.holds)),
)
with_itself Twice = (refl, refl, λ e. e)

-- ---- one set, with the empty set or with itself

abbrev pub Alone : List ℕ → List ℕ → List ℕ → Type 0
Alone bs first second =
    (n : ℕ) → Same (held_of n (sectors_in bs)) (held_of n (sectors_in first)) (held_of n (sectors_in second))

module _ (bs : List ℕ) where
  pub empty_second : Alone bs bs []
  unfolding held_of sectors_in set_of set_within
  empty_second n = with_nothing (held_of n (sectors_in bs))

  pub empty_first : Alone bs [] bs
  unfolding held_of sectors_in set_of set_within taken at_odds
  empty_first n = (refl, refl, λ e. e)

  pub itself_second : Alone bs bs bs
  itself_second n = with_itself (held_of n (sectors_in bs))

module _ (bs first second : List ℕ) (alone : Alone bs first second) where
  pub alone_in_order
      : merged (sectors_in first) (sectors_in second) ≡ flat_map (λ n. as_list (held_of n (sectors_in bs))) numbers
  unfolding merged taken_at
  alone_in_order = ap (λ (f : ℕ → List Sector). flat_map f numbers) (fun_ext (λ n. ap as_list (alone n).1))

  pub alone_numbers
      : how_many (in_either (sectors_in first) (sectors_in second)) numbers
      ≡ how_many (λ n. is_there (held_of n (sectors_in bs))) numbers
  unfolding in_either
  alone_numbers = ap (λ (f : ℕ → Bool). how_many f numbers) (fun_ext (λ n. (alone n).0))

  pub alone_is_taken
      : Fits first
      → Fits second
      → how_many (λ n. is_there (held_of n (sectors_in bs))) numbers ≤ 32
      → ((n : ℕ) → n < 256 → is_twice (held_of n (sectors_in bs)) ≡ false)
      → Takes first second
  unfolding at_odds_at
  alone_is_taken f g few once =
      accepts_takes
      first second (record {
        first_fits = f;
        second_fits = g;
        different = rw alone_numbers few;
        peace = nowhere_if_never _ (λ n h. (alone n).2 (once n h));
      })

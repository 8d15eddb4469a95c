-- Laws of what two sets have of one number, from their index entries. Rests on no axiom.
use Prim.Native.Nat.{ℕ, suc, ◌<◌}
use mathlib.Core.Path.{◌≡◌, refl, sym, ap, ap₂, ◌∙◌}
use mathlib.Core.Bool.{true, false, true≢false, and-false}
use mathlib.Core.List.{List, [], ◌∷◌}
use lib.Dec.{eqb}
use lib.ListN.{length, get_or}
use Rattle.sets.specs.Set.{sectors_in}
use Rattle.sets.specs.Held.{Held, Nothing, One, Twice, is_twice}
use Rattle.sets.specs.machine.Index.{shown, Indexed}
use Rattle.sets.proofs.ShownLaws.{highest_shows_twice}
use Rattle.merge.specs.Merge.{same_bytes, at_odds, at_odds_at}

-- ---- equal bytes

pub unlike_lengths_are_unlike : (xs ys : List ℕ) → (length xs ≡ length ys → ⊥) → same_bytes xs ys ≡ false
unfolding same_bytes
unlike_lengths_are_unlike [] [] n = absurd (n refl)
unlike_lengths_are_unlike [] (y ∷ ys) n = refl
unlike_lengths_are_unlike (x ∷ xs) [] n = refl
unlike_lengths_are_unlike (x ∷ xs) (y ∷ ys) n =
    rw (unlike_lengths_are_unlike xs ys (λ e. n (ap suc e))) (and-false (eqb x y))

-- ---- at odds

pub twice_second_is_at_odds : (held : Held) → at_odds held Twice ≡ true
unfolding at_odds
twice_second_is_at_odds Nothing = refl
twice_second_is_at_odds (One s) = refl
twice_second_is_at_odds Twice = refl

pub odds_with_nothing : (held : Held) → at_odds held Nothing ≡ is_twice held
unfolding at_odds
odds_with_nothing Nothing = refl
odds_with_nothing (One s) = refl
odds_with_nothing Twice = refl

pub at_peace_is_not_twice
    : (x y : Held) → at_odds x y ≡ false → (is_twice x ≡ false) × (is_twice y ≡ false)
unfolding at_odds
at_peace_is_not_twice Nothing y h = (refl, h)
at_peace_is_not_twice (One s) Nothing h = (refl, refl)
at_peace_is_not_twice (One s) (One t) h = (refl, refl)
at_peace_is_not_twice (One s) Twice h = absurd (true≢false h)
at_peace_is_not_twice Twice y h = absurd (true≢false h)

pub single_entries
    : (first second : List ℕ) (a b : ℕ)
    → at_odds (shown first a) (shown second b) ≡ false
    → (a ≡ 65535 → ⊥) × (b ≡ 65535 → ⊥)
single_entries first second a b h =
    let once = at_peace_is_not_twice (shown first a) (shown second b) h in (
      λ e. true≢false (sym (ap is_twice (highest_shows_twice first a e)) ∙ once.0),
      λ e. true≢false (sym (ap is_twice (highest_shows_twice second b e)) ∙ once.1),
    )

-- ---- at a number

module _
    (first second a b : List ℕ) (one : Indexed first a) (other : Indexed second b) (n : ℕ) (inside : n < 256)
  where
    pub entries_at_odds
        : at_odds (shown first (get_or a n 0)) (shown second (get_or b n 0))
        ≡ at_odds_at (sectors_in first) (sectors_in second) n
    unfolding at_odds_at
    entries_at_odds = ap₂ at_odds (one.shows n inside) (other.shows n inside)

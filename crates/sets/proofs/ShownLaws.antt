-- What an entry of an index shows, by the three kinds of entries. Rests on no axiom.
use Prim.Native.Nat.{ℕ}
use mathlib.Core.Path.{◌≡◌, refl}
use mathlib.Core.Bool.{true, false, cond}
use mathlib.Core.List.{List}
use borrow.Author.Tests.{ne_eqb}
use lib.Dec.{eqb}
use Rattle.sets.specs.Held.{Nothing, One, Twice, is_twice}
use Rattle.sets.specs.machine.Index.{sector_at, shown}

module _ (set : List ℕ) (entry : ℕ) where
  pub zero_shows_nothing : entry ≡ 0 → shown set entry ≡ Nothing
  unfolding shown
  zero_shows_nothing e = rw e

  pub highest_shows_twice : entry ≡ 65535 → shown set entry ≡ Twice
  unfolding shown
  highest_shows_twice e = rw e

  pub place_shows_one : (entry ≡ 0 → ⊥) → (entry ≡ 65535 → ⊥) → shown set entry ≡ One (sector_at set entry)
  unfolding shown
  place_shows_one n m = rw (ne_eqb entry 0 n, ne_eqb entry 65535 m)

  pub other_shows_no_twice : (entry ≡ 65535 → ⊥) → is_twice (shown set entry) ≡ false
  unfolding shown
  other_shows_no_twice m =
      rw (ne_eqb entry 65535 m)
      (elim (eqb entry 0) as (λ t. is_twice (cond t Nothing (One (sector_at set entry))) ≡ false)
      [ true ↦ refl | false ↦ refl ])

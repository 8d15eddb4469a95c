-- What an index says of a number that its set has at most once, for the crates above: entry 0 where the set has none,
-- else the place of the sector's length code. Rests on no axiom.
use Prim.Native.Nat.{ℕ, ◌+◌, ◌≤◌, ◌<◌}
use mathlib.Core.Path.{◌≡◌, refl, sym, ap, ◌∙◌}
use mathlib.Core.Bool.{false, not, true≢false}
use mathlib.Core.List.{List}
use lib.Dec.{eqb}
use lib.ListN.{length, get_or, take, drop}
use Rattle.lists.specs.Place.{anywhere}
use Rattle.sectors.specs.Sector.{sector_size}
use Rattle.sets.specs.Set.{sector_of, sectors_in}
use Rattle.sets.specs.Held.{Nothing, One, held_of, is_twice, numbers}
use Rattle.sets.specs.Alone.{is_twice_in}
use Rattle.sets.specs.machine.Index.{sector_at, end_of, Indexed}
use Rattle.sets.proofs.ShownLaws.{zero_shows_nothing, highest_shows_twice, place_shows_one}
use Rattle.sets.proofs.NumberLaws.{nowhere_at_number}

-- ---- the sector whose length code stands at a place

module _ (set : List ℕ) (k : ℕ) where
  pub code_at : (sector_at set k).code ≡ get_or set k 0
  unfolding sector_at sector_of
  code_at = refl

  pub holds_at : (sector_at set k).holds ≡ not (eqb (get_or set (k + 1) 0) 0)
  unfolding sector_at sector_of
  holds_at = refl

  pub bytes_at : (sector_at set k).bytes ≡ take (sector_size (get_or set k 0)) (drop (k + 2) set)
  unfolding sector_at sector_of
  bytes_at = refl

-- ---- an entry

module _ (set index : List ℕ) (indexed : Indexed set index) (n : ℕ) (byte : n < 256) where
  abbrev entry : ℕ
  entry = get_or index n 0

  pub no_entry_is_missing : entry ≡ 0 → held_of n (sectors_in set) ≡ Nothing
  no_entry_is_missing e = sym (indexed.shows n byte) ∙ zero_shows_nothing set entry e

  module _ (once : anywhere (is_twice_in (sectors_in set)) numbers ≡ false) where
    pub entry_is_single : entry ≡ 65535 → ⊥
    unfolding is_twice_in
    entry_is_single e =
        true≢false (sym (ap is_twice (highest_shows_twice set entry e))
        ∙ ap is_twice (indexed.shows n byte)
        ∙ nowhere_at_number (is_twice_in (sectors_in set)) once n byte)

    pub entry_is_sector : (entry ≡ 0 → ⊥) → held_of n (sectors_in set) ≡ One (sector_at set entry)
    entry_is_sector there = sym (indexed.shows n byte) ∙ place_shows_one set entry there entry_is_single

    pub sector_ends : (entry ≡ 0 → ⊥) → end_of set entry ≤ length set
    sector_ends there = indexed.within n byte there entry_is_single

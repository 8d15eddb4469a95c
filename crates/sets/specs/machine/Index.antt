-- Machine, not meaning: laws tie it to Held and Alone (`proofs/IndexLaws`, `TwiceLaws`). No lemmas here.
-- How the code looks a sector up: an index of a set has an entry for each sector number, 0 where the set has none,
-- 65,535 where it has the number twice, else the place of the sector's length code.
use Rattle.std.specs.Prelude.{ℕ, ◌+◌, ◌-◌, ◌<◌, ◌≤◌, ◌≡◌, cond, List, eqb, ltb, length, drop, get_or}
use Rattle.std.proofs.Math.Option.{Option, none, some}
use Rattle.refusal.specs.Answer.{Answer, accepted, refused, refuse_if}
use Rattle.sectors.specs.Sector.{sector_size}
use Rattle.sets.specs.Set.{Sector, sector_of, sectors_in}
use Rattle.sets.specs.Held.{Held, Nothing, One, Twice, held_of}

-- the sector whose length code stands at a place
unfoldable pub sector_at : List ℕ → ℕ → Sector
sector_at set k = sector_of (get_or set (k - 1) 0) (get_or set k 0) (get_or set (k + 1) 0) (drop (k + 2) set)

-- the place after it
abbrev pub end_of : List ℕ → ℕ → ℕ
end_of set k = k + 2 + sector_size (get_or set k 0)

-- what an entry shows of its number
unfoldable pub shown : List ℕ → ℕ → Held
shown set entry = cond (eqb entry 0) Nothing (cond (eqb entry 65535) Twice (One (sector_at set entry)))

-- an entry's sector lies within the set
abbrev pub Within : List ℕ → ℕ → Type 0
Within set entry = (entry ≡ 0 → ⊥) → (entry ≡ 65535 → ⊥) → end_of set entry ≤ length set

-- an index of a set: each entry shows what the set has of that number
pub record Indexed (set index : List ℕ) : Type 0 where
  pub shows : (n : ℕ) → n < 256 → shown set (get_or index n 0) ≡ held_of n (sectors_in set)
  pub within : (n : ℕ) → n < 256 → Within set (get_or index n 0)

-- the entry of a number, given what it was, when a sector's length code is met at a place
abbrev pub entry_with : ℕ → ℕ → ℕ
entry_with old k = cond (eqb old 0) k 65535

-- 13, or the place after the sector that begins at a place
unfoldable pub end_rule : List ℕ → ℕ → Answer
end_rule set start =
    refuse_if (ltb (length set - start) 3) 13 0
    (refuse_if (ltb 3 (get_or set (start + 1) 0)) 13 0
    (refuse_if (ltb (length set - start - 3) (sector_size (get_or set (start + 1) 0))) 13 0
    (accepted (start + 3 + sector_size (get_or set (start + 1) 0)))))

-- 13, or how many sectors, k having been counted before
abbrev pub count_rule : ℕ → Option (List Sector) → Answer
count_rule k none = refused 13 0
count_rule k (some ss) = accepted (k + length ss)

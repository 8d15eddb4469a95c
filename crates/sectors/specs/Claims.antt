-- Document 02, (xiii): the maker no longer writes code 0. Document 01's rule of the maker, which stands here alone, and
-- the claim that every other code is answered by it. No lemmas here.
use Rattle.std.specs.Prelude.{ℕ, ◌≡◌, List, ltb, length}
use Rattle.refusal.specs.Answer.{Answer, accepted, refused, refuse_if, settled}
use Rattle.sectors.specs.Sector.{sector_items, is_misfit, sector_rule, sector_output}

-- document 01: 13 for a length code above 3, or data not that long; 9; else the number of items
unfoldable pub four_codes_rule : ℕ → ℕ → ℕ → ℕ → List ℕ → ℕ → Answer
four_codes_rule track side sector code bytes room =
    refuse_if (is_misfit code bytes) 13 0
    (refuse_if (ltb room (length (sector_items track side sector code bytes))) 9 0
    (accepted (length (sector_items track side sector code bytes))))

unfoldable pub four_codes_output : ℕ → ℕ → ℕ → ℕ → List ℕ → List ℕ → List ℕ
four_codes_output track side sector code bytes old =
    settled (four_codes_rule track side sector code bytes (length old)) (sector_items track side sector code bytes) old

pub record No128ByteSectors : Type 0 where
  -- code 0: 13 whatever the data and the room, and nothing lent is changed
  pub code_0_is_misfit
      : (track side sector : ℕ) (bytes : List ℕ) (room : ℕ) → sector_rule track side sector 0 bytes room ≡ refused 13 0
  pub code_0_stores_nothing
      : (track side sector : ℕ) (bytes old : List ℕ) → sector_output track side sector 0 bytes old ≡ old
  -- every other code, 1 to 3 and above 3: as before
  pub others_as_before
      : (track side sector code : ℕ) (bytes : List ℕ) (room : ℕ)
      → (code ≡ 0 → ⊥)
      → sector_rule track side sector code bytes room ≡ four_codes_rule track side sector code bytes room
  pub others_stored_as_before
      : (track side sector code : ℕ) (bytes old : List ℕ)
      → (code ≡ 0 → ⊥)
      → sector_output track side sector code bytes old ≡ four_codes_output track side sector code bytes old

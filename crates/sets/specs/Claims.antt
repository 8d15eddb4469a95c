-- Document 02 (vii): what holds of sets as bytes. No lemmas here.
use Rattle.std.specs.Prelude.{ℕ, ◌≡◌, Bool, true, ◌&&◌, List, [], ◌∷◌, eqb, leb, length}
use Rattle.std.proofs.Math.Option.{some}
use Rattle.lists.specs.Place.{everywhere}
use Rattle.sectors.specs.Sector.{sector_size}
use Rattle.sets.specs.Set.{Sector, set_bytes, set_of}

-- a sector has a length code of 0 to 3 and as many bytes of data
unfoldable pub is_sector : Sector → Bool
is_sector s = leb s.code 3 && eqb (length s.bytes) (sector_size s.code)

-- the same bytes, but that 1 may stand where the other list has another number that is not 0
pub data Restates : List ℕ → List ℕ → Type 0 where
  end : Restates [] []
  same : {b : ℕ} {new old : List ℕ} → Restates new old → Restates (b ∷ new) (b ∷ old)
  yes : {b : ℕ} {new old : List ℕ} → (b ≡ 0 → ⊥) → Restates new old → Restates (1 ∷ new) (b ∷ old)

pub record SetsAsBytes : Type 0 where
  -- the bytes of a set are read as that set
  pub print_then_read : (ss : List Sector) → everywhere is_sector ss ≡ true → set_of (set_bytes ss) ≡ some ss
  -- a set that was read has these bytes, a sum that holds now told by 1
  pub read_then_print : (bs : List ℕ) (ss : List Sector) → set_of bs ≡ some ss → Restates (set_bytes ss) bs
  -- what was read are sectors
  pub read_is_sectors : (bs : List ℕ) (ss : List Sector) → set_of bs ≡ some ss → everywhere is_sector ss ≡ true

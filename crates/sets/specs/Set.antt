-- Document 02 (vii): a sector, a set of sectors, and a set as one list of bytes. No lemmas here.
use Rattle.std.specs.Prelude.{ℕ, zero, suc, Bool, true, false, cond, not, ◌||◌, List, [], ◌∷◌, ◌++◌, eqb, ltb, length, take, drop}
use Rattle.std.proofs.Math.Option.{Option, none, some}
use Rattle.sectors.specs.Sector.{sector_size}

-- a sector is its number, length code, data and whether its sum holds
pub record Sector : Type 0 where
  pub number : ℕ
  pub code : ℕ
  pub holds : Bool
  pub bytes : List ℕ

-- whether a sum holds, as a byte
abbrev pub as_byte : Bool → ℕ
as_byte true = 1
as_byte false = 0

-- a sector's bytes: its number, its length code, whether its sum holds, its data
unfoldable pub sector_bytes : Sector → List ℕ
sector_bytes s = s.number ∷ s.code ∷ as_byte s.holds ∷ s.bytes

-- a set's bytes: its sectors one after the other, nothing between them
unfoldable pub set_bytes : List Sector → List ℕ
set_bytes [] = []
set_bytes (s ∷ ss) = sector_bytes s ++ set_bytes ss

-- the sector of three bytes and of the data that begins after them: its sum holds where the third byte is not 0
unfoldable pub sector_of : ℕ → ℕ → ℕ → List ℕ → Sector
sector_of number code sum rest =
    record { number = number; code = code; holds = not (eqb sum 0); bytes = take (sector_size code) rest }

-- one sector more at the front of a set, where there is a set
abbrev pub with_first : Sector → Option (List Sector) → Option (List Sector)
with_first s none = none
with_first s (some ss) = some (s ∷ ss)

-- the set of at most n sectors that a list of bytes is; none where a length code is above 3, or the list ends in a
-- sector
unfoldable pub set_within : ℕ → List ℕ → Option (List Sector)
set_within zero [] = some []
set_within zero (b ∷ bs) = none
set_within (suc n) [] = some []
set_within (suc n) (number ∷ []) = none
set_within (suc n) (number ∷ code ∷ []) = none
set_within (suc n) (number ∷ code ∷ sum ∷ rest) =
    cond (ltb 3 code || ltb (length rest) (sector_size code))
    none
    (with_first (sector_of number code sum rest) (set_within n (drop (sector_size code) rest)))

-- the set that a list of bytes is: it has no more sectors than bytes
unfoldable pub set_of : List ℕ → Option (List Sector)
set_of bs = set_within (length bs) bs

-- 13, misfit: a list that is no set to its end
abbrev pub is_none : Option (List Sector) → Bool
is_none none = true
is_none (some ss) = false

unfoldable pub is_misfit_set : List ℕ → Bool
is_misfit_set bs = is_none (set_of bs)

-- the sectors of a list of bytes that is a set
abbrev pub or_empty : Option (List Sector) → List Sector
or_empty none = []
or_empty (some ss) = ss

unfoldable pub sectors_in : List ℕ → List Sector
sectors_in bs = or_empty (set_of bs)

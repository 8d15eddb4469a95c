-- Machine, not meaning: laws tie it to TrackSectors. The sectors of entries that are handed back. No lemmas here.
use Rattle.std.specs.Prelude.{ℕ, ◌+◌, ◌≤◌, ◌≡◌, true, cond, not, eqb, length, drop}
use mathlib.Core.List.{List, [], ◌∷◌, flat_map}
use Rattle.timing.specs.declared.Profile.{Profile}
use Rattle.sectors.specs.Sector.{sector_size}
use Rattle.sets.specs.Set.{Sector, set_bytes}
use Rattle.entries.specs.FieldKinds.{is_data}
use Rattle.track.specs.declared.index.IndexEntry.{IndexEntry}
use Rattle.track_set.specs.TrackSectors.{data_at}

module _ (p : Profile) (ds : List ℕ) where
  -- the sector of an entry, where its data was found
  unfoldable pub handed_sectors : IndexEntry → List Sector
  handed_sectors e =
      cond (eqb e.found 0) []
      (record {
        number = e.sector;
        code = e.code;
        holds = not (eqb e.holds 0);
        bytes = data_at p ds e.data_place e.code;
      }
      ∷ [])

  abbrev pub handed_bytes : List IndexEntry → List ℕ
  handed_bytes es = set_bytes (flat_map handed_sectors es)

  -- an entry of an index: what it says of its data is so
  pub record Stands (e : IndexEntry) : Type 0 where
    pub one : e.found ≤ 1
    pub sum : e.holds ≤ 1
    pub reads : (e.found ≡ 0 → ⊥) → is_data p (drop e.data_place ds) e.code ≡ true
    pub within : (e.found ≡ 0 → ⊥) → e.data_place ≤ length ds

-- how many bytes an entry takes in a set
unfoldable pub size_of : IndexEntry → ℕ
size_of e = cond (eqb e.found 0) 0 (3 + sector_size e.code)

-- all of them, and how many sectors they are
unfoldable pub sizes_of : List IndexEntry → ℕ
sizes_of [] = 0
sizes_of (e ∷ es) = size_of e + sizes_of es

unfoldable pub founds_of : List IndexEntry → ℕ
founds_of [] = 0
founds_of (e ∷ es) = e.found + founds_of es

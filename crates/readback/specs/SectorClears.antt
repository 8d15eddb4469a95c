-- Document 02, request (vi): how near the two fields of a sector, of any of the four length codes, come to the edges of
-- their windows. No lemmas here.
use Rattle.std.specs.Prelude.{ℕ, ◌+◌, ◌-◌, ◌≤◌, List, take, drop}
use Rattle.timing.specs.Class.{classes_of}
use Rattle.timing.specs.declared.Profile.{Profile}
use Rattle.clearance.specs.Clearance.{least_clearance}
use Rattle.lengths.specs.Stream.{stream_of}
use Rattle.fields.specs.Field.{field_used}
use Rattle.sectors.specs.Sector.{sector_size, sector_items}
use Rattle.demands.specs.Streams.{AcceptedProfile, Moved}
use Rattle.demands.specs.Demand3.{stated}
use Rattle.readback.specs.SectorReads.{Made, id_place, data_place}

-- the least clearance of a field of n bytes at the front of ds: over the intervals that it uses
abbrev pub field_clearance : Profile → List ℕ → ℕ → ℕ
field_clearance p ds n = least_clearance p (take (field_used (classes_of p ds) n) ds)

module _ (track side sector code : ℕ) (bytes : List ℕ) where
  -- both fields have a least clearance of so much or more
  pub record SectorClears (p : Profile) (changed : List ℕ) (e : ℕ) : Type 0 where
    pub id_clear : e ≤ field_clearance p (drop id_place changed) 10
    pub data_clear
        : e ≤ field_clearance p (drop (data_place track side sector code bytes) changed) (sector_size code + 6)

-- under any accepted profile
pub record MadeSectorsClear : Type 0 where
  -- each interval changed by at most c, where c is at most the margin
  pub changed_sector
      : (track side sector code : ℕ) (bytes : List ℕ)
      → Made track side sector code bytes
      → (p : Profile)
      → AcceptedProfile p
      → (c : ℕ)
      → c ≤ stated p
      → (changed : List ℕ)
      → Moved c (stream_of p (sector_items track side sector code bytes)) changed
      → SectorClears track side sector code bytes p changed (stated p - c)
  -- as it was written
  pub written_sector
      : (track side sector code : ℕ) (bytes : List ℕ)
      → Made track side sector code bytes
      → (p : Profile)
      → AcceptedProfile p
      → SectorClears track side sector code bytes p (stream_of p (sector_items track side sector code bytes)) (stated p)

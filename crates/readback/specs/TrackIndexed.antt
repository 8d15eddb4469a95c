-- A track of sectors, of any of the four length codes: what the index lists of the stream of their items, written one
-- after the other. No lemmas here.
use Rattle.std.specs.Prelude.{ℕ, ◌<◌, ◌≤◌, ◌≡◌, Bool, true, false, Option, Some, List, [], ◌∷◌, ◌++◌, leb, length, replicate}
use Rattle.lists.specs.Place.{everywhere}
use Rattle.refusal.specs.Answer.{accepted}
use Rattle.timing.specs.declared.Profile.{Profile}
use Rattle.items.specs.Item.{is_byte}
use Rattle.items.specs.Written.{written}
use Rattle.lengths.specs.Stream.{stream_of}
use Rattle.sectors.specs.Sector.{sector_items, is_misfit}
use Rattle.entries.specs.declared.Entry.{Entry}
use Rattle.track.specs.Order.{in_order}
use Rattle.track.specs.Index.{index_rule, padded, index_entries}
use Rattle.demands.specs.Streams.{AcceptedProfile, Moved}
use Rattle.demands.specs.Demand3.{stated}
use Rattle.readback.specs.SectorReads.{place_after, id_field}

-- what a sector is made of
pub record Sector : Type 0 where
  pub track : ℕ
  pub side : ℕ
  pub sector : ℕ
  pub code : ℕ
  pub bytes : List ℕ

abbrev pub items_of_sector : Sector → List ℕ
items_of_sector s = sector_items s.track s.side s.sector s.code s.bytes

-- what its layout takes: three data numbers, a length code of 0 to 3, and as many bytes; mark bytes among these would
-- do too. The maker takes no code 0
pub record Makes (s : Sector) : Type 0 where
  pub track : s.track < 256
  pub side : s.side < 256
  pub sector : s.sector < 256
  pub fits : is_misfit s.code s.bytes ≡ false
  pub data_are_bytes : everywhere is_byte s.bytes ≡ true

abbrev pub AllMade : List Sector → Type 0
AllMade [] = Unit {0}
AllMade (s ∷ ss) = Makes s × AllMade ss

-- their items, one sector after the other
unfoldable pub track_items : List Sector → List ℕ
track_items [] = []
track_items (s ∷ ss) = items_of_sector s ++ track_items ss

-- the entry of a sector that is written behind other bytes: its ID's marks stand after 12 of 00, its data's marks after
-- the ID field, 22 of 4E and 12 of 00
abbrev pub entry_behind : List ℕ → Sector → Entry
entry_behind before s =
    record {
      track = s.track;
      side = s.side;
      sector = s.sector;
      code = s.code;
      place = place_after (before ++ replicate 12 0x00);
      field =
          Some
          (record {
            place =
                place_after
                (before
                ++ (replicate 12 0x00
                ++ (id_field s.track s.side s.sector s.code s.bytes
                ++ (replicate 22 0x4e ++ replicate 12 0x00))));
            holds = true;
          });
    }

-- the entries of sectors that are written behind other bytes
unfoldable pub entries_behind : List ℕ → List Sector → List Entry
entries_behind before [] = []
entries_behind before (s ∷ ss) = entry_behind before s ∷ entries_behind (before ++ written (items_of_sector s)) ss

-- sectors in the order of their numbers: none of those behind a sector has a lower one
unfoldable pub not_below : Sector → Sector → Bool
not_below s t = leb s.sector t.sector

abbrev pub NumbersAscend : List Sector → Type 0
NumbersAscend [] = Unit {0}
NumbersAscend (s ∷ ss) = (everywhere (not_below s) ss ≡ true) × NumbersAscend ss

-- the index of intervals has exactly the entries of these sectors, each with its data found and its sum holding
pub record TrackIndexed (p : Profile) (changed : List ℕ) (ss : List Sector) : Type 0 where
  pub answer : index_rule p changed ≡ accepted (length ss)
  -- by sector number, then by ID place
  pub entries : index_entries p changed ≡ padded (in_order (entries_behind [] ss))
  -- so as they were written, where their numbers ascend
  pub as_written : NumbersAscend ss → index_entries p changed ≡ padded (entries_behind [] ss)

-- up to 32 sectors, under any accepted profile, every interval moved by at most the margin
abbrev pub MadeTracksAreIndexed : Type 0
MadeTracksAreIndexed =
    (ss : List Sector)
    → length ss ≤ 32
    → AllMade ss
    → (p : Profile)
    → AcceptedProfile p
    → (changed : List ℕ)
    → Moved (stated p) (stream_of p (track_items ss)) changed
    → TrackIndexed p changed ss

-- Document 02, (xiii): old disks still read. A sector of 128 bytes has its layout still, though the maker turns code 0
-- away: what the field reader, the index and the merge give of such sectors. No lemmas here.
use Rattle.std.specs.Prelude.{ℕ, ◌<◌, ◌≤◌, ◌≡◌, Bool, true, ◌&&◌, List, [], ◌∷◌, eqb, length}
use Rattle.lists.specs.Place.{everywhere, anywhere, lowest}
use Rattle.refusal.specs.Answer.{Answer, refused, refuse_if}
use Rattle.timing.specs.declared.Profile.{Profile}
use Rattle.items.specs.Item.{is_byte}
use Rattle.lengths.specs.Stream.{stream_of}
use Rattle.sectors.specs.Sector.{sector_rule}
use Rattle.sets.specs.Set.{Sector as SetSector, set_bytes}
use Rattle.sets.specs.Held.{numbers}
use Rattle.merge.specs.Merge.{is_crowded, at_odds_at}
use Rattle.merge.specs.Rule.{room_rule, merge_rule}
use Rattle.demands.specs.Streams.{AcceptedProfile, Moved}
use Rattle.demands.specs.Demand3.{stated}
use Rattle.readback.specs.SectorReads.{SectorReads}
use Rattle.readback.specs.SectorClears.{SectorClears}
use Rattle.readback.specs.TrackIndexed.{Sector, items_of_sector, track_items, TrackIndexed}

-- a sector of 128 bytes, as an old disk has it
pub record Old (s : Sector) : Type 0 where
  pub track : s.track < 256
  pub side : s.side < 256
  pub sector : s.sector < 256
  pub code : s.code ≡ 0
  pub size : length s.bytes ≡ 128
  pub data_are_bytes : everywhere is_byte s.bytes ≡ true

abbrev pub AllOld : List Sector → Type 0
AllOld [] = Unit {0}
AllOld (s ∷ ss) = Old s × AllOld ss

-- the same in a set of sectors
unfoldable pub is_old : SetSector → Bool
is_old s = eqb s.code 0 && eqb (length s.bytes) 128

-- the merge of two sets of sectors, but for 13: 15, 17, 9, else the number of sectors
unfoldable pub without_misfit : List SetSector → List SetSector → ℕ → Answer
without_misfit first second room =
    refuse_if (is_crowded first second) 15 0
    (refuse_if (anywhere (at_odds_at first second) numbers) 17 (lowest (at_odds_at first second) numbers)
    (room_rule first second room))

pub record OldDisksRead : Type 0 where
  -- the maker turns them away
  pub unmade
      : (s : Sector) (room : ℕ)
      → Old s
      → sector_rule s.track s.side s.sector s.code s.bytes room ≡ refused 13 0
  -- finder and field reader: both fields of one are found and read, the sums holding
  pub sector_reads
      : (s : Sector)
      → Old s
      → (p : Profile)
      → AcceptedProfile p
      → (changed : List ℕ)
      → Moved (stated p) (stream_of p (items_of_sector s)) changed
      → SectorReads s.track s.side s.sector s.code s.bytes p changed
  -- as written they have the margin as their clearance, or more
  pub sector_clears
      : (s : Sector)
      → Old s
      → (p : Profile)
      → AcceptedProfile p
      → SectorClears s.track s.side s.sector s.code s.bytes p (stream_of p (items_of_sector s)) (stated p)
  -- index: up to 32 of them, one after the other, are all listed with their data
  pub track_indexed
      : (ss : List Sector)
      → length ss ≤ 32
      → AllOld ss
      → (p : Profile)
      → AcceptedProfile p
      → (changed : List ℕ)
      → Moved (stated p) (stream_of p (track_items ss)) changed
      → TrackIndexed p changed ss
  -- merge: sets of them are never turned away by 13
  pub sets_merged
      : (first second : List SetSector) (room : ℕ)
      → everywhere is_old first ≡ true
      → everywhere is_old second ≡ true
      → merge_rule (set_bytes first) (set_bytes second) room ≡ without_misfit first second room

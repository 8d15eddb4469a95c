-- Document 02, (xiv), and the sentence for which all of this is built: pages made into sectors, written on tracks, every
-- interval moved by at most the margin, are read as sets and as the same pages. No lemmas here.
use Rattle.std.specs.Prelude.{ℕ, suc, ◌+◌, ◌*◌, ◌<◌, ◌≤◌, ◌≡◌, Bool, true, List, [], ◌∷◌, ◌++◌, map, ltb, length, replicate}
use Rattle.lists.specs.Filled.{filled}
use Rattle.lists.specs.Place.{everywhere}
use Rattle.lists.specs.Sum.{sum_of}
use Rattle.lists.specs.Table.{tabulated}
use Rattle.refusal.specs.Answer.{accepted}
use Rattle.timing.specs.declared.Profile.{Profile}
use Rattle.lengths.specs.Stream.{stream_of}
use Rattle.sets.specs.Set.{set_bytes}
use Rattle.track_set.specs.TrackSectors.{sectors_found, track_rule}
use Rattle.page.specs.Page.{page_cells, fill_bytes}
use Rattle.page.specs.Reading.{read_answer, read_output}
use Rattle.page.specs.Making.{page_of, make_rule}
use Rattle.page.specs.Claims.{read_whole, merged_all, AllTaken}
use Rattle.demands.specs.Streams.{AcceptedProfile, Moved}
use Rattle.demands.specs.Demand3.{stated}
use Rattle.readback.specs.TrackIndexed.{Sector, track_items}

-- a cell is a byte
unfoldable pub is_cell : ℕ → Bool
is_cell cell = ltb cell 256

-- ---- pages on tracks

-- the sector of page n, which the page maker gives, on a track and side
abbrev pub master_sector : ℕ → ℕ → List ℕ → ℕ → Sector
master_sector track side cells n =
    record { track = track; side = side; sector = n; code = 3; bytes = page_of cells n ++ replicate fill_bytes 0x00 }

-- those of so many pages behind the first k
unfoldable pub masters : ℕ → ℕ → List ℕ → ℕ → ℕ → List Sector
masters track side cells k pages = map (master_sector track side cells) (tabulated suc k pages)

-- a track that has some of the pages: its number and side, how many pages stand on it, and its intervals
pub record MasterTrack : Type 0 where
  pub number : ℕ
  pub side : ℕ
  pub share : ℕ
  pub intervals : List ℕ

abbrev pub share_of : MasterTrack → ℕ
share_of t = t.share

-- the sectors of the pages behind the first k were written on these tracks by the maker's layout, one after the other
-- and some on each track, and every interval was moved by at most the margin
abbrev pub StandOn : Profile → List ℕ → ℕ → List MasterTrack → Type 0
StandOn p cells k [] = Unit {0}
StandOn p cells k (t ∷ ts) =
    (t.number < 256)
    × (t.side < 256)
    × Moved (stated p) (stream_of p (track_items (masters t.number t.side cells k t.share))) t.intervals
    × StandOn p cells (k + t.share) ts

-- ---- pages read from them

-- the set that is read of a track
unfoldable pub set_read : Profile → MasterTrack → List ℕ
set_read p t = set_bytes (sectors_found p t.intervals)

-- every track is read, wherever there is room for its set
abbrev pub AllRead : Profile → List MasterTrack → Type 0
AllRead p [] = Unit {0}
AllRead p (t ∷ ts) =
    ((room : ℕ) → length (set_read p t) ≤ room → track_rule p t.intervals room ≡ accepted t.share) × AllRead p ts

-- a set is read as these pages, with their dots
pub record ReadAsPages (set cells : List ℕ) (pages : ℕ) : Type 0 where
  pub answer : (room : ℕ) → page_cells * pages ≤ room → read_answer set pages room ≡ read_whole cells pages
  pub output : (old : List ℕ) → page_cells * pages ≤ length old → read_output set pages old ≡ filled cells old

-- for every p pages, every accepted profile and every track number and side
pub record MastersReadBack : Type 0 where
  -- on one track
  pub on_one_track
      : (cells : List ℕ) (pages room : ℕ)
      → (make_rule cells pages room).number ≡ 0
      → everywhere is_cell cells ≡ true
      → (p : Profile)
      → AcceptedProfile p
      → (t : MasterTrack)
      → t.share ≡ pages
      → StandOn p cells 0 (t ∷ [])
      → AllRead p (t ∷ []) × ReadAsPages (set_read p t) cells pages
  -- on several, whose sets are merged
  pub on_several_tracks
      : (cells : List ℕ) (pages room : ℕ)
      → (make_rule cells pages room).number ≡ 0
      → everywhere is_cell cells ≡ true
      → (p : Profile)
      → AcceptedProfile p
      → (ts : List MasterTrack)
      → sum_of (map share_of ts) ≡ pages
      → StandOn p cells 0 ts
      → AllRead p ts
      × AllTaken (map (set_read p) ts)
      × ReadAsPages (merged_all (map (set_read p) ts)) cells pages

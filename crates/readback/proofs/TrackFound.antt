-- Why the sectors of a track are found: each is written as if it stood alone, so each is ahead of the search that the
-- sector before it leaves, and behind the last one no lock stands. Rests on no axiom.
use Prim.Native.Nat.{ℕ}
use mathlib.Core.Path.{◌≡◌, refl, sym, ap, ◌∙◌}
use mathlib.Core.Bool.{false}
use mathlib.Core.List.{List, ◌∷◌, ◌++◌, append_assoc, [], map}
use lib.ListN.{length, drop, replicate}
use Rattle.lists.specs.Place.{anywhere}
use Rattle.refusal.specs.declared.Refusal.TheVariants.{NoLock}
use Rattle.timing.specs.Class.{classes_of}
use Rattle.timing.specs.declared.Profile.{Profile}
use Rattle.items.specs.Item.{is_mark, written_bytes}
use Rattle.items.specs.Written.{fresh_check, written_from, written}
use Rattle.items.specs.Rule.{list_rule}
use Rattle.items.specs.declared.Check.{Check}
use Rattle.items.proofs.WrittenLaws.{written_from_none}
use Rattle.symbols.specs.Bits.{O, byte_bits, written_bits, all_bits}
use Rattle.symbols.specs.Bytes.{is_gap}
use Rattle.lengths.specs.Stream.{stream_of}
use Rattle.locks.specs.Lock.{lock_at}
use Rattle.locks.proofs.MarkLaws.{no_lock_behind}
use Rattle.locks.proofs.FirstLockLaws.{none_is_found}
use Rattle.fields.specs.Bytes.{byte_of}
use Rattle.entries.specs.Entries.{entries_from, entries_of}
use Rattle.entries.specs.declared.Entry.{Entry}
use Rattle.entries.proofs.SearchLaws.{refused_is_no_lock, search_ends}
use Rattle.track.specs.HandedBack.{data_place_of}
use Rattle.track_set.specs.TrackSectors.{data_at}
use Rattle.demands.specs.Streams.{AcceptedProfile, Moved}
use Rattle.demands.specs.Demand3.{stated}
use Rattle.demands.proofs.Demand3.{moved_has_classes}
use Rattle.readback.specs.NoLockInData.{DataAlone}
use Rattle.readback.specs.SectorReads.{id_field}
use Rattle.readback.specs.TrackIndexed.{Sector, items_of_sector, Makes, AllMade, track_items, entry_behind, entries_behind}
use Rattle.readback.proofs.WrittenSector.{sector_written, sector_written_before, from_id}
use Rattle.readback.proofs.CellClasses.{ReadBehind, classes_for}
use Rattle.readback.proofs.FieldAhead.{SyncAhead, BytesAhead, gap_and_sync}
use Rattle.readback.proofs.SectorAhead.{sync_at_front, FieldsFound, fields_found, data_place_there, id_place_there}
use Rattle.readback.proofs.SectorIndexed.{made_of, data_end, data_given, sector_listed}
use Rattle.readback.proofs.NoLockInData.{no_lock_in_data, moved_reads_behind}

-- ---- the written bytes

unfoldable bytes_of : List Sector → List ℕ
bytes_of [] = []
bytes_of (s ∷ ss) = replicate 12 0x00 ++ from_id s (bytes_of ss)

track_written : (c : Check) (ss : List Sector) → AllMade ss → written_from c (track_items ss) ≡ bytes_of ss
unfolding track_items bytes_of
track_written c [] made = written_from_none c
track_written c (s ∷ ss) (makes, made) =
    let (after, all) = sector_written_before s (made_of s makes) c (track_items ss) in
    all ∙ ap (λ (rest : List ℕ). replicate 12 0x00 ++ from_id s rest) (track_written after ss made)

-- one sector and what follows it
sector_then
    : (s : Sector) (makes : Makes s) (before rest : List ℕ)
    → before ++ (replicate 12 0x00 ++ from_id s rest) ≡ (before ++ written (items_of_sector s)) ++ rest
sector_then s makes before rest = rw (sector_written s (made_of s makes)) (simp append_assoc)

module _ (p : Profile) (changed : List ℕ) where
  -- what is read as the data of sectors that are written behind other bytes
  abbrev Given : List ℕ → Sector → Type 0
  Given before s = data_at p changed (data_place_of (entry_behind before s).field) s.code ≡ map byte_of s.bytes

  abbrev pub AllGiven : List ℕ → List Sector → Type 0
  AllGiven before [] = Unit {0}
  AllGiven before (s ∷ ss) = Given before s × AllGiven (before ++ written (items_of_sector s)) ss

module _ (p : Profile) (accepts : AcceptedProfile p) (changed : List ℕ) (middle : ReadBehind p changed) where
  abbrev Whole : List ℕ → Sector → List ℕ → Type 0
  Whole before s rest = classes_of p changed ≡ classes_for (before ++ (replicate 12 0x00 ++ from_id s rest))

  -- a sector's entry, and those of what follows it; and its data
  sector_first
      : {start : ℕ} {rest : List ℕ} {tail : List Entry} (before : List ℕ) (s : Sector) (makes : Makes s)
      → Whole before s rest
      → (f : FieldsFound p changed start s rest)
      → entries_from p changed (data_end makes f) ≡ tail
      → (entries_from p changed start ≡ entry_behind before s ∷ tail) × Given p changed before s
  unfolding id_field
  sector_first before s makes whole f e = (
    cc (sector_listed makes f, id_place_there before whole f, data_place_there before whole f),
    rw (data_place_there before whole f) (data_given makes f),
  )

  -- ---- behind the last sector

  no_gap_in_filler : anywhere is_gap (all_bits (replicate 54 0x4e) ++ (O ∷ [])) ≡ false
  unfolding anywhere all_bits written_bits byte_bits is_mark
  no_gap_in_filler = refl

  nothing_behind : (start : ℕ) → BytesAhead p changed start (replicate 54 0x4e) → entries_from p changed start ≡ []
  nothing_behind start ahead =
      let none : (k : ℕ) → lock_at (classes_of p (drop start changed)) k ≡ false =
      no_lock_behind ahead.last ahead.left (rw ahead.bits no_gap_in_filler) 0 (classes_of p (drop start changed))
      ahead.classes in
      search_ends p changed start
      (refused_is_no_lock p changed start NoLock (sym (none_is_found p changed start accepts none)))

  -- ---- sector by sector

  sectors_listed
      : (s : Sector) (ss : List Sector)
      → AllMade (s ∷ ss)
      → (before : List ℕ) (start : ℕ)
      → SyncAhead p changed start (from_id s (bytes_of ss))
      → Whole before s (bytes_of ss)
      → (entries_from p changed start ≡ entries_behind before (s ∷ ss)) × AllGiven p changed before (s ∷ ss)
  unfolding bytes_of entries_behind
  sectors_listed s [] (makes, made) before start ahead whole =
      let f = fields_found p accepts changed middle start s (made_of s makes) [] ahead in
      let (entries, given) = sector_first before s makes whole f (nothing_behind _ f.behind) in
      (entries, (given, tt))
  sectors_listed s (next ∷ ss) (makes, made) before start ahead whole =
      let rest : List ℕ = replicate 12 0x00 ++ from_id next (bytes_of ss) in
      let f = fields_found p accepts changed middle start s (made_of s makes) rest ahead in
      let (later, all) =
      sectors_listed next ss made (before ++ written (items_of_sector s)) (data_end makes f)
      (gap_and_sync p changed _ 53 (from_id next (bytes_of ss)) f.behind)
      (whole ∙ ap classes_for (sector_then s makes before rest)) in
      let (entries, given) = sector_first before s makes whole f later in
      (entries, (given, all))

-- ---- the track

nothing_is_data : DataAlone []
unfolding list_rule written_bytes anywhere
nothing_is_data = record { passes = refl; no_marks = refl }

-- the entries of its sectors, and what is read of their data
pub track_found
    : (ss : List Sector)
    → AllMade ss
    → (p : Profile) (accepts : AcceptedProfile p) (changed : List ℕ)
    → Moved (stated p) (stream_of p (track_items ss)) changed
    → (entries_of p changed ≡ entries_behind [] ss) × AllGiven p changed [] ss
unfolding entries_of entries_behind track_items written bytes_of
track_found [] made p accepts changed moved =
    let none = (no_lock_in_data p accepts [] nothing_is_data).1 changed moved in
    (search_ends p changed 0 (refused_is_no_lock p changed 0 NoLock (sym (none.adrift 0))), tt)
track_found (s ∷ ss) made p accepts changed moved =
    let middle = moved_reads_behind p accepts (track_items (s ∷ ss)) changed moved in
    let whole : Whole p accepts changed middle [] s (bytes_of ss) =
    moved_has_classes p accepts (track_items (s ∷ ss)) changed moved
    ∙ ap classes_for (track_written fresh_check (s ∷ ss) made) in
    sectors_listed p accepts changed middle s ss made [] 0 (sync_at_front p changed (from_id s (bytes_of ss)) whole) whole

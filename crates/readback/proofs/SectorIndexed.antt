-- Why the index lists a made sector that a search has ahead of it: the ID's lock is found and reads as an ID, the next
-- lock after it reads as its data, and the search goes on in the gap behind. Rests on no axiom.
use Rattle.std.specs.Prelude.{Some}
use Prim.Native.Nat.{ℕ, ◌≤◌}
use mathlib.Core.Path.{◌≡◌, sym, ap, ◌∙◌}
use mathlib.Core.Bool.{true}
use mathlib.Mathlib.Data.Bool.Basic.{or-eq-false-eq-eq-false-and-eq-false}
use mathlib.Core.List.{List, ◌∷◌, [], map}
use native.Mathlib.Omega.{arith}
use borrow.Author.Tests.{lt-ltb, le-leb, ltb-false}
use lib.Dec.{ltb}
use lib.ListN.{length, get_or, drop}
use lib.Seq.{take_at}
use Rattle.lists.proofs.PlaceLaws.{everywhere_of_passing, everywhere_of_none}
use Rattle.timing.specs.declared.Profile.{Profile}
use Rattle.items.specs.Item.{is_byte}
use Rattle.items.proofs.ItemLaws.{data_is_byte}
use Rattle.fields.specs.Bytes.{byte_of}
use Rattle.sectors.specs.Sector.{sector_size, is_misfit}
use Rattle.sectors.proofs.SectorCounts.{size_of_code}
use Rattle.entries.specs.FieldKinds.{opens_with, identifies, is_id, data_bytes, is_data}
use Rattle.entries.specs.Entries.{has_lock, lock_place, field_end, has_data, data_from, id_byte, entry_at, entry_end, next_start}
use Rattle.entries.specs.Entries.{entries_at, entries_from}
use Rattle.entries.specs.declared.Entry.{Entry}
use Rattle.entries.proofs.SearchLaws.{search_goes_on}
use Rattle.track_set.specs.TrackSectors.{data_at}
use Rattle.readback.specs.SectorReads.{ReadsField}
use Rattle.readback.specs.TrackIndexed.{Sector, Makes}
use Rattle.readback.proofs.FieldIndexed.{field_is_read, items_are_its_bytes, lock_there}
use Rattle.readback.proofs.WrittenSector.{MadeOf, ids, datas, data_are_bytes, id_are_bytes}
use Rattle.readback.proofs.SectorAhead.{data_count, end_of, FieldsFound}

-- ---- what the layout takes

module _ (s : Sector) (makes : Makes s) where
  pub code_is_small : s.code ≤ 3
  unfolding is_misfit
  code_is_small = ltb-false 3 s.code ((or-eq-false-eq-eq-false-and-eq-false (ltb 3 s.code) _).0 makes.fits).0

  pub made_of : MadeOf s
  made_of =
      let small = code_is_small in
      record {
        fits = makes.fits;
        id_are_bytes = everywhere_of_passing is_byte s.track _ (data_is_byte _ makes.track)
            ∙ everywhere_of_passing is_byte s.side _ (data_is_byte _ makes.side)
            ∙ everywhere_of_passing is_byte s.sector _ (data_is_byte _ makes.sector)
            ∙ everywhere_of_passing is_byte s.code [] (data_is_byte _ (omega arith))
            ∙ everywhere_of_none is_byte;
        data_are_bytes = makes.data_are_bytes;
      }

  identified : identifies (ids s) ≡ true
  unfolding identifies opens_with
  identified =
      rw (
        lt-ltb s.track 256 makes.track,
        lt-ltb s.side 256 makes.side,
        lt-ltb s.sector 256 makes.sector,
        le-leb s.code 3 code_is_small,
      )

  data_bytes_count : length (datas s) ≡ data_bytes s.code
  unfolding data_bytes
  data_bytes_count = data_count s made_of

-- ---- what the index lists of it

abbrev pub listed_as : Sector → ℕ → ℕ → Entry
listed_as s id_place_there data_place_there =
    record {
      track = s.track;
      side = s.side;
      sector = s.sector;
      code = s.code;
      place = id_place_there;
      field = Some (record { place = data_place_there; holds = true });
    }

module _
    {p : Profile} {changed : List ℕ} {start : ℕ} {s : Sector} {rest : List ℕ} (makes : Makes s)
    (found : FieldsFound p changed start s rest)
  where
    abbrev id_place_there : ℕ
    id_place_there = found.id.place

    abbrev id_end : ℕ
    id_end = end_of p changed id_place_there 10

    abbrev data_place_there : ℕ
    data_place_there = found.contents.place

    abbrev pub data_end : ℕ
    data_end = end_of p changed data_place_there (length (datas s))

    -- ---- the ID

    is_id_lem : is_id p (drop id_place_there changed) ≡ true
    unfolding is_id
    is_id_lem =
        let field = field_is_read found.id.reads in
        rw (field.does, items_are_its_bytes found.id.reads, identified s makes, field.sum)

    id_ends : field_end p changed id_place_there 10 ≡ id_end
    unfolding field_end
    id_ends = cc (field_is_read found.id.reads).uses

    id_byte_lem : (i : ℕ) → id_byte p changed id_place_there i ≡ get_or (ids s) i 0
    unfolding id_byte
    id_byte_lem i = cc (items_are_its_bytes found.id.reads)

    code_is : id_byte p changed id_place_there 7 ≡ s.code
    code_is = id_byte_lem 7

    -- ---- the data

    data_reads : ReadsField p (drop data_place_there changed) (data_bytes s.code) (datas s)
    data_reads = rw (← data_bytes_count s makes) found.contents.reads

    data_lock : (has_lock p changed id_end ≡ true) × (lock_place p changed id_end ≡ data_place_there)
    data_lock = lock_there found.contents

    has_data_lem : has_data p changed id_end s.code ≡ true
    unfolding has_data is_data opens_with
    has_data_lem =
        rw (data_lock.0, data_lock.1, (field_is_read data_reads).does, items_are_its_bytes data_reads)

    data_is : data_from p changed id_end s.code ≡ Some (record { place = data_place_there; holds = true })
    unfolding data_from
    data_is = rw (has_data_lem, data_lock.1, (field_is_read data_reads).sum)

    data_ends : entry_end p changed id_end s.code ≡ data_end
    unfolding entry_end field_end
    data_ends =
        rw (has_data_lem, data_lock.1, (field_is_read data_reads).uses)
        (ap (end_of p changed data_place_there) (sym (data_bytes_count s makes)))

    -- what is read of it is the sector's data
    pub data_given : data_at p changed data_place_there s.code ≡ map byte_of s.bytes
    unfolding data_at
    data_given =
        let size = size_of_code s.track s.side s.sector s.code s.bytes makes.fits in
        rw (items_are_its_bytes data_reads) (ap (map byte_of) (take_at s.bytes _ (sector_size s.code) size))

    -- ---- the entry

    adds : entries_at p changed id_place_there ≡ listed_as s id_place_there data_place_there ∷ []
    unfolding entries_at entry_at
    adds = rw (is_id_lem, id_byte_lem 4, id_byte_lem 5, id_byte_lem 6, code_is, id_ends, data_is)

    goes_on : next_start p changed id_place_there ≡ data_end
    unfolding next_start
    goes_on = rw (is_id_lem, id_ends, code_is, data_ends)

    pub sector_listed : entries_from p changed start ≡ listed_as s id_place_there data_place_there ∷ entries_from p changed data_end
    sector_listed =
        let (lock, place) = lock_there found.id in
        search_goes_on p changed start lock ∙ rw (place, adds, goes_on)

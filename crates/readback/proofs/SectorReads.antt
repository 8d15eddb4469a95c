-- Why a made sector reads back: within the margin the intervals keep the classes of the sector's cells, so that its
-- sync is ahead of the search from 0, and its two fields are found one after the other. Rests on no axiom.
use Prim.Native.Nat.{ℕ}
use mathlib.Core.Path.{◌≡◌}
use mathlib.Core.List.{List, ◌++◌, []}
use lib.ListN.{take, replicate}
use Rattle.timing.specs.Class.{at_start, cursor_after, classes_of}
use Rattle.timing.specs.declared.Profile.{Profile}
use Rattle.items.specs.Written.{written}
use Rattle.lengths.specs.Stream.{stream_of}
use Rattle.sectors.specs.Sector.{sector_items}
use Rattle.demands.specs.Streams.{AcceptedProfile, Moved}
use Rattle.demands.specs.Demand3.{stated}
use Rattle.demands.proofs.Demand3.{moved_has_classes}
use Rattle.readback.specs.SectorReads.{Made, id_field, data_field, id_place, data_place, SectorReads}
use Rattle.readback.specs.SectorReads.{MadeSectorsReadBack}
use Rattle.readback.specs.TrackIndexed.{Sector}
use Rattle.readback.proofs.WrittenSector.{sector_written, sector_is_listed, from_id}
use Rattle.readback.proofs.CellClasses.{classes_for}
use Rattle.readback.proofs.SectorAhead.{data_count, FieldsFound, fields_found, sync_at_front, data_place_there}
use Rattle.readback.proofs.SectorAhead.{id_place_there}
use Rattle.readback.proofs.NoLockInData.{moved_reads_behind}

module _
    (track side sector code : ℕ) (bytes : List ℕ) (made : Made track side sector code bytes) (p : Profile)
    (accepts : AcceptedProfile p) (changed : List ℕ)
    (moved : Moved (stated p) (stream_of p (sector_items track side sector code bytes)) changed)
  where
    abbrev s : Sector
    s = record { track = track; side = side; sector = sector; code = code; bytes = bytes }

    classes_are : classes_of p changed ≡ classes_for (replicate 12 0x00 ++ from_id s [])
    classes_are = cc (moved_has_classes p accepts _ changed moved, sector_written s made)

    found : FieldsFound p changed 0 s []
    found =
        fields_found p accepts changed (moved_reads_behind p accepts _ changed moved) 0 s made []
        (sync_at_front p changed (from_id s []) classes_are)

    id_there : id_place ≡ found.id.place
    unfolding id_place
    id_there = id_place_there [] classes_are found

    data_there : data_place track side sector code bytes ≡ found.contents.place
    unfolding data_place id_field
    data_there = data_place_there [] classes_are found

    pub id_stands : cursor_after (at_start p) (take id_place changed) ≡ at_start p
    id_stands = rw id_there found.id.stands

    pub data_stands_lem : cursor_after (at_start p) (take (data_place track side sector code bytes) changed) ≡ at_start p
    data_stands_lem = rw data_there found.contents.stands

    pub sector_reads : SectorReads track side sector code bytes p changed
    unfolding id_field data_field
    sector_reads =
        record {
          written = sector_is_listed s made;
          id_lock = rw id_there found.id.lock;
          id_reads = rw id_there found.id.reads;
          data_lock = rw (id_there, data_there) found.contents.lock;
          data_reads = rw (data_there, ← data_count s made) found.contents.reads;
        }

pub made_sectors_read_back : MadeSectorsReadBack
made_sectors_read_back = sector_reads

-- The index of a track as it is handed back, also through the C interface: numbers alone. No lemmas here.
use Rattle.std.specs.Prelude.{ℕ, List, map, Option, Some, None}
use Rattle.lists.specs.YesNo.{as_number}
use Rattle.refusal.specs.Answer.{Answer}
use Rattle.entries.specs.declared.DataField.{DataField}
use Rattle.entries.specs.declared.Entry.{Entry}
use Rattle.track.specs.declared.index.IndexEntry.{IndexEntry}
use Rattle.track.specs.declared.index.TrackIndex.{TrackIndex}

abbrev pub data_place_of : Option DataField → ℕ
data_place_of (Some field) = field.place
data_place_of None = 0

abbrev pub found_of : Option DataField → ℕ
found_of (Some field) = 1
found_of None = 0

abbrev pub holds_of : Option DataField → ℕ
holds_of (Some field) = as_number field.holds
holds_of None = 0

-- an entry with its data field as three numbers: without data all of them 0
abbrev pub index_entry_of : Entry → IndexEntry
index_entry_of e =
    record {
      id_place = e.place;
      data_place = data_place_of e.field;
      track = e.track;
      side = e.side;
      sector = e.sector;
      code = e.code;
      found = found_of e.field;
      holds = holds_of e.field;
    }

-- number and place of document 01, how many entries, and 32 of them
abbrev pub index_answer_of : Answer → List Entry → TrackIndex
index_answer_of a entries =
    record { number = a.number; place = a.place; count = a.count; entries = map index_entry_of entries }

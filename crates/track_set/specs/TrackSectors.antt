-- From a track to a set: the sectors whose data was found, in the index's order, in the form of document 02, (vii). No
-- lemmas here.
use Rattle.std.specs.Prelude.{ℕ, ltb, length, take, drop, Option, Some, None, Result, Ok, Err}
use mathlib.Core.List.{List, [], ◌∷◌, map, flat_map}
use Rattle.refusal.specs.Table.{number_of, place_of}
use Rattle.refusal.specs.Answer.{Answer, accepted, refused, refuse_if, first_refusal, settled}
use Rattle.refusal.specs.declared.Refusal.{Refusal}
use Rattle.timing.specs.declared.Profile.{Profile}
use Rattle.fields.specs.Bytes.{byte_of}
use Rattle.sectors.specs.Sector.{sector_size}
use Rattle.sets.specs.declared.SetSize.{SetSize}
use Rattle.sets.specs.Set.{Sector, set_bytes}
use Rattle.merge.specs.Rule.{MergeAnswer, storing}
use Rattle.entries.specs.FieldKinds.{items_of, data_bytes}
use Rattle.entries.specs.Entries.{entries_of}
use Rattle.entries.specs.declared.DataField.{DataField}
use Rattle.entries.specs.declared.Entry.{Entry}
use Rattle.track.specs.Order.{in_order}
use Rattle.track.specs.Index.{index_rule}

module _ (p : Profile) (ds : List ℕ) where
  -- the data of a length code at a place: the items between the three marks and FB and the two check bytes; one that is
  -- a mark byte gives the byte
  unfoldable pub data_at : ℕ → ℕ → List ℕ
  data_at place code = map byte_of (take (sector_size code) (drop 4 (items_of p (drop place ds) (data_bytes code))))

  -- the sector of an entry, where its data was found
  abbrev pub sector_with : ℕ → ℕ → Option DataField → List Sector
  sector_with number code (Some field) =
      record { number = number; code = code; holds = field.holds; bytes = data_at field.place code } ∷ []
  sector_with number code None = []

  unfoldable pub sectors_of : Entry → List Sector
  sectors_of e = sector_with e.sector e.code e.field

  -- those of the index, in its order
  unfoldable pub sectors_found : List Sector
  sectors_found = flat_map sectors_of (in_order (entries_of p ds))

-- 1, 2, 15 as for the index, then 9; else the number of sectors
unfoldable pub track_rule : Profile → List ℕ → ℕ → Answer
track_rule p ds room =
    first_refusal (index_rule p ds)
    (refuse_if (ltb room (length (set_bytes (sectors_found p ds)))) 9 0
    (accepted (length (sectors_found p ds))))

-- with the number of bytes stored
unfoldable pub track_answer : Profile → List ℕ → ℕ → MergeAnswer
track_answer p ds room = storing (track_rule p ds room) (length (set_bytes (sectors_found p ds)))

-- the answer as it is declared
abbrev pub track_set_answer : Result SetSize Refusal → MergeAnswer
track_set_answer (Ok size) = record { answer = accepted size.count; stored = size.bytes }
track_set_answer (Err r) = record { answer = refused (number_of r) (place_of r); stored = 0 }

-- what the output holds afterwards
unfoldable pub track_output : Profile → List ℕ → List ℕ → List ℕ
track_output p ds old = settled (track_rule p ds (length old)) (set_bytes (sectors_found p ds)) old

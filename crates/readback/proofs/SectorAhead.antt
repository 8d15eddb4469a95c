-- A made sector that a search has ahead of it: its ID field is found, behind it its data field, and behind that the
-- gap. Rests on no axiom.
use Prim.Native.Nat.{ℕ, ◌+◌}
use mathlib.Core.Path.{◌≡◌, refl, ◌∙◌}
use mathlib.Core.List.{List, ◌∷◌, ◌++◌, []}
use native.Mathlib.Omega.{arith}
use lib.ListN.{length, drop, replicate}
use Rattle.timing.specs.Class.{classes_of}
use Rattle.timing.specs.declared.Profile.{Profile}
use Rattle.items.specs.Item.{is_mark}
use Rattle.symbols.specs.Bits.{byte_bits, written_bits, all_bits}
use Rattle.fields.specs.Field.{field_used}
use Rattle.sectors.specs.Sector.{sector_size}
use Rattle.sectors.proofs.SectorCounts.{size_of_code, size_at_most_1024}
use Rattle.demands.specs.Streams.{AcceptedProfile}
use Rattle.readback.specs.SectorReads.{place_after}
use Rattle.readback.specs.TrackIndexed.{Sector}
use Rattle.readback.proofs.WrittenSector.{A1, id_bytes, data_bytes, id_are_bytes, data_are_bytes, MadeOf, datas, from_data}
use Rattle.readback.proofs.WrittenSector.{from_id, ids, after_id}
use Rattle.readback.proofs.CellClasses.{ReadBehind, classes_for, sync_classes, no_run_of_none, place_is}
use Rattle.readback.proofs.CheckedField.{checked_length}
use Rattle.readback.proofs.FieldAhead.{SyncAhead, BytesAhead, FieldFound, gap_and_sync, field_found}
use Rattle.readback.proofs.FieldIndexed.{lock_within}

module _ (s : Sector) (made : MadeOf s) where
  size_is : length s.bytes ≡ sector_size s.code
  size_is = size_of_code s.track s.side s.sector s.code s.bytes made.fits

  pub data_count : length (datas s) ≡ sector_size s.code + 6
  data_count = checked_length (A1 ∷ data_bytes s) ∙ omega (arith, size_is)

-- ---- found one after the other

-- the first interval after a field of n bytes
abbrev pub end_of : Profile → List ℕ → ℕ → ℕ → ℕ
end_of p changed k n = k + field_used (classes_of p (drop k changed)) n

pub record FieldsFound (p : Profile) (changed : List ℕ) (start : ℕ) (s : Sector) (rest : List ℕ) : Type 0 where
  pub id : FieldFound p changed start (ids s) (after_id s rest)
  pub contents : FieldFound p changed (end_of p changed id.place 10) (datas s) (replicate 54 0x4e ++ rest)
  pub behind : BytesAhead p changed (end_of p changed contents.place (length (datas s))) (replicate 54 0x4e ++ rest)

module _
    (p : Profile) (accepts : AcceptedProfile p) (changed : List ℕ) (middle : ReadBehind p changed) (start : ℕ)
    (s : Sector) (made : MadeOf s) (rest : List ℕ) (ahead : SyncAhead p changed start (from_id s rest))
  where
    id_found : FieldFound p changed start (ids s) (after_id s rest)
    id_found =
        field_found p accepts changed middle start (id_bytes s) (after_id s rest) (id_are_bytes s made) (omega arith) ahead

    abbrev id_end : ℕ
    id_end = end_of p changed id_found.place 10

    data_found : FieldFound p changed id_end (datas s) (replicate 54 0x4e ++ rest)
    unfolding all_bits written_bits byte_bits is_mark
    data_found =
        let size = size_is s made in
        let most = size_at_most_1024 s.code in
        field_found p accepts changed middle id_end (data_bytes s) (replicate 54 0x4e ++ rest) (data_are_bytes s made)
        (omega arith) (gap_and_sync p changed id_end 21 (from_data s rest) (id_found.behind _ refl))

    pub fields_found : FieldsFound p changed start s rest
    unfolding all_bits written_bits byte_bits is_mark
    fields_found = record { id = id_found; contents = data_found; behind = data_found.behind _ refl }

-- a sync at the front of a list is ahead of a search from 0
pub sync_at_front
    : (p : Profile) (changed ws : List ℕ)
    → classes_of p changed ≡ classes_for (replicate 12 0x00 ++ ws)
    → SyncAhead p changed 0 ws
sync_at_front p changed ws whole =
    record {
      filler = [];
      more = 32;
      no_run = no_run_of_none;
      classes = whole ∙ sync_classes ws;
      sync = whole ∙ sync_classes ws;
    }

-- ---- the places of a sector behind other bytes

module _
    {p : Profile} {changed : List ℕ} {start : ℕ} {s : Sector} {rest : List ℕ} (before : List ℕ)
    (whole : classes_of p changed ≡ classes_for (before ++ (replicate 12 0x00 ++ from_id s rest)))
    (f : FieldsFound p changed start s rest)
  where
    pub id_place_there : place_after (before ++ replicate 12 0x00) ≡ f.id.place
    id_place_there =
        place_is p changed before (replicate 11 0x00) (from_id s rest) _ whole f.id.classes (lock_within f.id)

    pub data_place_there
        : place_after (before ++ (replicate 12 0x00 ++ (ids s ++ (replicate 22 0x4e ++ replicate 12 0x00))))
        ≡ f.contents.place
    data_place_there =
        place_is p changed before (replicate 12 0x00 ++ (ids s ++ (replicate 22 0x4e ++ replicate 11 0x00)))
        (from_data s rest) _ whole f.contents.classes (lock_within f.contents)

-- One sector of a set as it is stored: three bytes, and then the data where it belongs, which is what the field reader
-- gives there. Rests on no axiom.
use Prim.Native.Nat.{ℕ, zero, suc, ◌+◌, ◌-◌, ◌≤◌}
use mathlib.Core.Path.{◌≡◌, refl, sym, ap, ◌∙◌}
use mathlib.Core.Bool.{true}
use mathlib.Core.List.{List, [], ◌∷◌, ◌++◌, map, append_assoc}
use native.Mathlib.Omega.{arith}
use borrow.Rule.Slice.PartMut.{put_mid}
use lib.ListN.{length, set, take, drop, length-set, length-map, length-drop}
use lib.Seq.{sets-eq, drop-drop, length-take-le}
use Rattle.lists.specs.Filled.{stored_at}
use Rattle.lists.proofs.StoreLaws.{stored_none, front_fills}
use Rattle.timing.specs.Class.{classes_of}
use Rattle.timing.specs.declared.Profile.{Profile}
use Rattle.fields.specs.Field.{field_items}
use Rattle.fields.specs.Bytes.{byte_of}
use Rattle.fields.specs.machine.Gather.{gather_rule}
use Rattle.fields.proofs.RuleLaws.{gather_accepts}
use Rattle.sectors.specs.Sector.{sector_size}
use Rattle.sets.specs.Set.{set_bytes}
use Rattle.entries.specs.FieldKinds.{items_of, data_bytes, is_data}
use Rattle.entries.proofs.OpeningLaws.{reading_is_accepted, items_are_read, items_count}
use Rattle.track.specs.declared.index.IndexEntry.{IndexEntry}
use Rattle.track_set.specs.TrackSectors.{data_at}
use Rattle.track_set.specs.machine.Handed.{handed_sectors, Stands}
use Rattle.track_set.proofs.HandedLaws.{data_reads, data_count, without_data, bytes_with_data}

-- ---- the data

bytes_of_front : (m : ℕ) (us : List ℕ) → take m (map byte_of us) ≡ map byte_of (take m us)
bytes_of_front zero us = refl
bytes_of_front (suc m) [] = refl
bytes_of_front (suc m) (u ∷ us) = ap (λ (vs : List ℕ). byte_of u ∷ vs) (bytes_of_front m us)

bytes_of_rest : (k : ℕ) (us : List ℕ) → drop k (map byte_of us) ≡ map byte_of (drop k us)
bytes_of_rest zero us = refl
bytes_of_rest (suc k) [] = refl
bytes_of_rest (suc k) (u ∷ us) = bytes_of_rest k us

module _ (p : Profile) (ds : List ℕ) (place code : ℕ) (is : is_data p (drop place ds) code ≡ true) where
  pub data_gathers : (gather_rule (classes_of p (drop place ds)) (data_bytes code)).number ≡ 0
  data_gathers =
      let n = data_bytes code in
      gather_accepts p (drop place ds) n n (reading_is_accepted p (drop place ds) n (data_reads p ds place code is))

  pub data_stored
      : (old : List ℕ)
      → length old ≡ sector_size code
      → stored_at old 0 (drop 4 (map byte_of (field_items (classes_of p (drop place ds)) (data_bytes code)))) ≡ data_at p ds place code
  unfolding data_at data_bytes
  data_stored old room =
      let n = data_bytes code in
      let reads = data_reads p ds place code is in
      let items = items_of p (drop place ds) n in
      let all : length items ≡ sector_size code + 6 = items_count p (drop place ds) n reads in
      let rest : length (drop 4 items) ≡ length items - 4 = length-drop 4 items in
      let same = length-map (drop 4 items) byte_of in
      ap (λ (us : List ℕ). stored_at old 0 (drop 4 (map byte_of us))) (sym (items_are_read p (drop place ds) n reads))
      ∙ ap (stored_at old 0) (bytes_of_rest 4 items)
      ∙ front_fills (map byte_of (drop 4 items)) old (omega arith)
      ∙ ap (λ (m : ℕ). take m (map byte_of (drop 4 items))) room
      ∙ bytes_of_front (sector_size code) (drop 4 items)

-- ---- the sector

sector_stored
    : (out : List ℕ) (at size number code sum : ℕ) (bytes : List ℕ)
    → at + 3 + size ≤ length out
    → length bytes ≡ size
    → put_mid (at + 3) (at + 3 + size - (at + 3)) (set (set (set out at number) (at + 1) code) (at + 2) sum) bytes
    ≡ stored_at out at (number ∷ code ∷ sum ∷ bytes)
unfolding stored_at
sector_stored out at size number code sum bytes room count =
    let one : at + 1 ≡ suc at = omega arith in
    let two : at + 2 ≡ suc (suc at) = omega arith in
    let three : at + 3 ≡ suc (suc (suc at)) = omega arith in
    let left : at + 3 + size - (at + 3) ≡ size = omega arith in
    let first = set out at number in
    let second = set first (suc at) code in
    let third = set second (suc (suc at)) sum in
    let long : length third ≡ length out =
    length-set second (suc (suc at)) sum ∙ length-set first (suc at) code ∙ length-set out at number in
    let start = suc (suc (suc at)) in
    rw (left, one, two, three)
    (ap (λ (rest : List ℕ). take start third ++ (bytes ++ rest))
    (drop-drop size start third ∙ ap (λ (n : ℕ). drop (start + n) third) (sym count))
    ∙ sym (sets-eq bytes third start (omega arith) ∙ append_assoc (take start third) bytes _))

-- the places of its data
pub as_long
    : (out : List ℕ) (at size number code sum : ℕ)
    → at + 3 + size ≤ length out
    → length (take (at + 3 + size - (at + 3)) (drop (at + 3) (set (set (set out at number) (at + 1) code) (at + 2) sum)))
    ≡ size
as_long out at size number code sum room =
    let first = set out at number in
    let second = set first (at + 1) code in
    let third = set second (at + 2) sum in
    let long = length-set second (at + 2) sum ∙ length-set first (at + 1) code ∙ length-set out at number in
    let rest = length-drop (at + 3) third in
    let left : at + 3 + size - (at + 3) ≡ size = omega arith in
    rw left (length-take-le size (drop (at + 3) third) (omega arith))

module _ (p : Profile) (ds : List ℕ) (e : IndexEntry) (out : List ℕ) (at : ℕ) where
  pub nothing_stored : e.found ≡ 0 → out ≡ stored_at out at (set_bytes (handed_sectors p ds e))
  unfolding set_bytes
  nothing_stored none = rw (without_data p ds e none) (sym (stored_none out at))

  pub entry_stored
      : (size : ℕ) (old new front : List ℕ)
      → Stands p ds e
      → (e.found ≡ 0 → ⊥)
      → size ≡ sector_size e.code
      → at + 3 + size ≤ length out
      → length old ≡ size
      → front ≡ drop e.data_place ds
      → new ≡ stored_at old 0 (drop 4 (map byte_of (field_items (classes_of p front) (size + 6))))
      → put_mid (at + 3) (at + 3 + size - (at + 3))
      (set (set (set out at e.sector) (at + 1) e.code) (at + 2) e.holds) new
      ≡ stored_at out at (set_bytes (handed_sectors p ds e))
  unfolding data_bytes
  entry_stored size old new front stands some sized room long begins is =
      let place = e.data_place in
      let code = e.code in
      let bytes : List ℕ = data_at p ds place code in
      let given : new ≡ bytes =
      is ∙ rw (begins, sized) (data_stored p ds place code (stands.reads some) old (long ∙ sized)) in
      rw given
      (sector_stored out at size e.sector code e.holds bytes room
      (data_count p ds place code (stands.reads some) ∙ sym sized)
      ∙ ap (stored_at out at) (sym (bytes_with_data p ds e stands some)))

-- The sectors of an index as they are stored: what an entry says of its data is so, and each takes as many bytes as its
-- length code says. Rests on no axiom.
use Prim.Native.Nat.{ℕ, zero, suc, ◌+◌, ◌-◌, ◌≤◌, ◌<◌}
use mathlib.Core.Path.{◌≡◌, refl, sym, ap, ◌∙◌}
use mathlib.Core.Bool.{true, false, cond, not}
use mathlib.Core.List.{List, [], ◌∷◌, flat_map, append-nil}
use native.Mathlib.Decide.{dec_lt}
use native.Mathlib.Omega.{arith}
use borrow.Author.Tests.{ne_eqb}
use lib.Dec.{eqb}
use lib.ListN.{length, get_or, take, drop, length-append, length-map, length-drop}
use lib.Seq.{length-take-le}
use Rattle.lists.proofs.BoolLaws.{both}
use Rattle.timing.specs.declared.Profile.{Profile}
use Rattle.fields.specs.Bytes.{byte_of}
use Rattle.sectors.specs.Sector.{sector_size}
use Rattle.sectors.proofs.SectorCounts.{size_at_most_1024}
use Rattle.sets.specs.Set.{Sector, as_byte, sector_bytes, set_bytes}
use Rattle.merge.proofs.OutputLaws.{bytes_of-append}
use Rattle.entries.specs.FieldKinds.{items_of, reads, opens_with, data_bytes, is_data}
use Rattle.entries.proofs.OpeningLaws.{items_count}
use Rattle.track.specs.declared.index.IndexEntry.{IndexEntry}
use Rattle.track_set.specs.TrackSectors.{data_at}
use Rattle.track_set.specs.machine.Handed.{handed_sectors, handed_bytes, Stands, size_of, sizes_of, founds_of}

module _ (p : Profile) (ds : List ℕ) where
  -- ---- the data of a length code

  pub data_reads : (place code : ℕ) → is_data p (drop place ds) code ≡ true → reads p (drop place ds) (data_bytes code) ≡ true
  unfolding is_data
  data_reads place code e =
      (both (reads p (drop place ds) (data_bytes code)) (opens_with 0xfb (items_of p (drop place ds) (data_bytes code))) e).0

  pub data_count
      : (place code : ℕ) → is_data p (drop place ds) code ≡ true → length (data_at p ds place code) ≡ sector_size code
  unfolding data_at data_bytes
  data_count place code e =
      let items = items_of p (drop place ds) (data_bytes code) in
      let all : length items ≡ sector_size code + 6 =
      items_count p (drop place ds) (data_bytes code) (data_reads place code e) in
      let rest : length (drop 4 items) ≡ length items - 4 = length-drop 4 items in
      length-map (take (sector_size code) (drop 4 items)) byte_of
      ∙ length-take-le (sector_size code) (drop 4 items) (omega arith)

  -- ---- one entry

  module _ (e : IndexEntry) where
    abbrev pub the_sector : Sector
    the_sector =
        record {
          number = e.sector;
          code = e.code;
          holds = not (eqb e.holds 0);
          bytes = data_at p ds e.data_place e.code;
        }

    pub without_data : e.found ≡ 0 → handed_sectors p ds e ≡ []
    unfolding handed_sectors
    without_data none = rw none

    pub with_data : (e.found ≡ 0 → ⊥) → handed_sectors p ds e ≡ the_sector ∷ []
    unfolding handed_sectors
    with_data some = rw (ne_eqb e.found 0 some)

    sum_byte : (h : ℕ) → h ≤ 1 → as_byte (not (eqb h 0)) ≡ h
    sum_byte zero small = refl
    sum_byte (suc zero) small = refl
    sum_byte (suc (suc h)) small = absurd (omega arith)

    -- its bytes: number, code, whether its sum holds, and the data
    pub bytes_with_data
        : Stands p ds e
        → (e.found ≡ 0 → ⊥)
        → set_bytes (handed_sectors p ds e)
        ≡ e.sector ∷ e.code ∷ e.holds ∷ data_at p ds e.data_place e.code
    unfolding set_bytes sector_bytes
    bytes_with_data stands some = rw (with_data some, append-nil, sum_byte e.holds stands.sum)

    pub sector_count : Stands p ds e → length (handed_sectors p ds e) ≡ e.found
    sector_count stands =
        elim (dec_lt 0 e.found) [
          | yes some ↦ ap length (with_data (λ none. omega arith)) ∙ omega (arith, stands.one)
          | no none ↦
              let zero : e.found ≡ 0 = omega arith in
              ap length (without_data zero) ∙ sym zero
        ]

    pub bytes_count : Stands p ds e → length (set_bytes (handed_sectors p ds e)) ≡ size_of e
    unfolding size_of set_bytes
    bytes_count stands =
        elim (dec_lt 0 e.found) [
          | yes some ↦
              let is : e.found ≡ 0 → ⊥ = λ none. omega arith in
              let stored = data_count e.data_place e.code (stands.reads is) in
              rw (bytes_with_data stands is, ne_eqb e.found 0 is) (omega arith)
          | no none ↦
              let zero : e.found ≡ 0 = omega arith in rw (without_data zero, zero)
        ]

  -- ---- all entries

  abbrev pub AllStand : List IndexEntry → Type 0
  AllStand [] = Unit {0}
  AllStand (e ∷ es) = Stands p ds e × AllStand es

  pub stands_at : (es : List IndexEntry) (k : ℕ) (d : IndexEntry) → AllStand es → k < length es → Stands p ds (get_or es k d)
  stands_at [] k d all h = absurd (omega arith)
  stands_at (e ∷ es) zero d (first, all) h = first
  stands_at (e ∷ es) (suc k) d (first, all) h = stands_at es k d all (omega arith)

  pub all_sizes : (es : List IndexEntry) → AllStand es → sizes_of es ≡ length (handed_bytes p ds es)
  unfolding sizes_of set_bytes flat_map
  all_sizes [] all = refl
  all_sizes (e ∷ es) (first, all) =
      let rest = all_sizes es all in
      let one = bytes_count e first in
      rw (bytes_of-append (handed_sectors p ds e) (flat_map (handed_sectors p ds) es))
      (omega (arith, length-append (set_bytes (handed_sectors p ds e)) (handed_bytes p ds es)))

  pub all_founds : (es : List IndexEntry) → AllStand es → founds_of es ≡ length (flat_map (handed_sectors p ds) es)
  unfolding founds_of flat_map
  all_founds [] all = refl
  all_founds (e ∷ es) (first, all) =
      let rest = all_founds es all in
      let one = sector_count e first in
      omega (arith, length-append (handed_sectors p ds e) (flat_map (handed_sectors p ds) es))

pub size_without_data : (e : IndexEntry) → e.found ≡ 0 → 0 ≡ size_of e
unfolding size_of
size_without_data e none = rw none

pub size_with_data : (e : IndexEntry) → (e.found ≡ 0 → ⊥) → 3 + sector_size e.code ≡ size_of e
unfolding size_of
size_with_data e some = rw (ne_eqb e.found 0 some)

-- no entry takes more than 1,027 bytes
pub size_is_small : (e : IndexEntry) → size_of e ≤ 1027
unfolding size_of
size_is_small e =
    elim (eqb e.found 0) as (λ t. cond t 0 (3 + sector_size e.code) ≤ 1027) [
      | true ↦ omega arith
      | false ↦ omega (arith, size_at_most_1024 e.code)
    ]

-- The written bytes of a sector are its gaps as they stand and its two fields with their check bytes: a mark after a
-- data byte starts the register again, so a field is written as if it stood alone. Rests on no axiom.
use Prim.Native.Nat.{ℕ, ◌+◌}
use mathlib.Core.Path.{◌≡◌, refl, ap, ◌∙◌}
use mathlib.Core.Bool.{true, false}
use mathlib.Core.List.{List, ◌∷◌, ◌++◌, append-nil, append_assoc, []}
use native.Mathlib.Omega.{arith}
use borrow.Author.Tests.{le-ltb}
use lib.ListN.{replicate, length}
use Rattle.lists.specs.Place.{anywhere, everywhere}
use Rattle.lists.proofs.PlaceLaws.{anywhere-append, everywhere-append}
use Rattle.items.specs.Item.{is_byte, is_mark, is_check, is_item, is_foreign, written_bytes}
use Rattle.items.specs.Written.{fresh_check, after_bytes, check_bytes, written_from, written}
use Rattle.items.specs.Rule.{list_rule}
use Rattle.items.specs.declared.Check.{Check}
use Rattle.items.proofs.ItemLaws.{bytes_are_items, bytes_have_no_check}
use Rattle.items.proofs.CheckLaws.{unmarked_after_data, mark_starts_again}
use Rattle.items.proofs.CheckFacts.{written_from_of_check_at_end}
use Rattle.items.proofs.WrittenLaws.{written_from-append, written_from_of_no_check, written_from_none}
use Rattle.sectors.specs.Sector.{opening, identity, sector_items}
use Rattle.sectors.proofs.SectorCounts.{size_at_most_1024, sector_counts}
use Rattle.readback.specs.SectorReads.{with_check, Made}
use Rattle.readback.specs.TrackIndexed.{Sector, items_of_sector}

abbrev pub A1 : ℕ
A1 = 256 + 0xa1

-- ---- a gap and the field after it

field_written
    : (c : Check) (ws : List ℕ)
    → c.marked ≡ false
    → everywhere is_byte (A1 ∷ ws) ≡ true
    → written_from c ((A1 ∷ ws) ++ (512 ∷ [])) ≡ with_check (A1 ∷ ws)
unfolding is_mark
field_written c ws unmarked bytes =
    written_from_of_check_at_end c (A1 ∷ ws)
    ∙ ap (λ (us : List ℕ). us ++ check_bytes (after_bytes c us))
    (written_from_of_no_check c (A1 ∷ ws) (bytes_have_no_check (A1 ∷ ws) bytes))
    ∙ ap (λ (s : Check). (A1 ∷ ws) ++ check_bytes s) (mark_starts_again c A1 ws refl unmarked)

-- a gap that ends in a byte 00
gap_and_field
    : (c : Check) (gap ws rest : List ℕ)
    → everywhere is_byte (gap ++ (0x00 ∷ [])) ≡ true
    → everywhere is_byte (A1 ∷ ws) ≡ true
    → (after : Check)
    × (written_from c ((gap ++ (0x00 ∷ [])) ++ (((A1 ∷ ws) ++ (512 ∷ [])) ++ rest))
    ≡ (gap ++ (0x00 ∷ [])) ++ (with_check (A1 ∷ ws) ++ written_from after rest))
gap_and_field c gap ws rest gap_bytes bytes =
    let whole : List ℕ = gap ++ (0x00 ∷ []) in
    let start : Check = after_bytes c whole in
    let field : List ℕ = (A1 ∷ ws) ++ (512 ∷ []) in (
      after_bytes start (with_check (A1 ∷ ws)),
      cc (
        written_from-append c whole (field ++ rest),
        written_from_of_no_check c whole (bytes_have_no_check whole gap_bytes),
        written_from-append start field rest,
        field_written start ws (unmarked_after_data c gap 0x00 (omega arith)) bytes,
      ),
    )

-- ---- the sector

gaps_are_bytes
    : (everywhere is_byte (replicate 12 0x00) ≡ true)
    × (everywhere is_byte (replicate 22 0x4e ++ replicate 12 0x00) ≡ true)
    × (everywhere is_byte (replicate 54 0x4e) ≡ true)
unfolding everywhere is_byte is_mark
gaps_are_bytes = (refl, refl, refl)

abbrev pub MadeOf : Sector → Type 0
MadeOf s = Made s.track s.side s.sector s.code s.bytes

module _ (s : Sector) where
  -- the fields after their first mark, and with their check bytes
  abbrev pub id_bytes : List ℕ
  id_bytes = A1 ∷ A1 ∷ 0xfe ∷ s.track ∷ s.side ∷ s.sector ∷ s.code ∷ []

  abbrev pub data_bytes : List ℕ
  data_bytes = A1 ∷ A1 ∷ 0xfb ∷ s.bytes

  abbrev pub ids : List ℕ
  ids = with_check (A1 ∷ id_bytes)

  abbrev pub datas : List ℕ
  datas = with_check (A1 ∷ data_bytes)

  -- from the data's marks on, from the end of the ID on and from the ID's marks on, up to the bytes of other sectors
  abbrev pub from_data : List ℕ → List ℕ
  from_data rest = datas ++ (replicate 54 0x4e ++ rest)

  abbrev pub after_id : List ℕ → List ℕ
  after_id rest = replicate 22 0x4e ++ (replicate 12 0x00 ++ from_data rest)

  abbrev pub from_id : List ℕ → List ℕ
  from_id rest = ids ++ after_id rest

  grouped
      : (items : List ℕ)
      → items_of_sector s ++ items
      ≡ replicate 12 0x00
      ++ (((A1 ∷ id_bytes) ++ (512 ∷ []))
      ++ ((replicate 22 0x4e ++ replicate 12 0x00)
      ++ (((A1 ∷ data_bytes) ++ (512 ∷ [])) ++ (replicate 54 0x4e ++ items))))
  unfolding sector_items opening identity
  grouped items = simp append_assoc

  module _ (made : MadeOf s) where
    pub id_are_bytes : everywhere is_byte (A1 ∷ id_bytes) ≡ true
    unfolding everywhere is_byte is_mark
    id_are_bytes = made.id_are_bytes

    pub data_are_bytes : everywhere is_byte (A1 ∷ data_bytes) ≡ true
    unfolding everywhere is_byte is_mark
    data_are_bytes = made.data_are_bytes

    -- the sector's bytes, behind any check register and before other items
    pub sector_written_before
        : (c : Check) (items : List ℕ)
        → (after : Check)
        × (written_from c (items_of_sector s ++ items) ≡ replicate 12 0x00 ++ from_id (written_from after items))
    sector_written_before c items =
        let last : List ℕ = replicate 54 0x4e in
        let (zeros, middle, end) = gaps_are_bytes in
        let (after_id_lem, first) =
        gap_and_field c (replicate 11 0x00) id_bytes
        ((replicate 22 0x4e ++ replicate 12 0x00) ++ (((A1 ∷ data_bytes) ++ (512 ∷ [])) ++ (last ++ items)))
        zeros id_are_bytes in
        let (after_data_lem, second) =
        gap_and_field after_id_lem (replicate 22 0x4e ++ replicate 11 0x00) data_bytes (last ++ items) middle data_are_bytes in (
          after_bytes after_data_lem last,
          rw (
            grouped items,
            first,
            second,
            written_from-append after_data_lem last items,
            written_from_of_no_check after_data_lem last (bytes_have_no_check last end),
          ),
        )

    pub sector_written : written (items_of_sector s) ≡ replicate 12 0x00 ++ from_id []
    unfolding written
    sector_written =
        let (after, all) = sector_written_before fresh_check [] in
        cc (append-nil (items_of_sector s), written_from_none after)

    -- ---- the writer takes it

    no_foreign : anywhere is_foreign (items_of_sector s) ≡ false
    unfolding sector_items opening identity anywhere is_foreign is_item is_byte is_mark is_check
    no_foreign =
        let last : List ℕ = (s.bytes ++ (512 ∷ [])) ++ replicate 54 0x4e in
        anywhere-append is_foreign (s.track ∷ s.side ∷ s.sector ∷ s.code ∷ []) last
        ∙ rw (
          bytes_are_items (s.track ∷ s.side ∷ s.sector ∷ s.code ∷ []) made.id_are_bytes,
          anywhere-append is_foreign (s.bytes ++ (512 ∷ [])) (replicate 54 0x4e),
          anywhere-append is_foreign s.bytes (512 ∷ []),
          bytes_are_items s.bytes made.data_are_bytes,
        )

    pub sector_is_listed : (list_rule (items_of_sector s)).number ≡ 0
    unfolding list_rule
    sector_is_listed =
        let items : List ℕ = items_of_sector s in
        let ids : List ℕ = s.track ∷ s.side ∷ s.sector ∷ s.code ∷ [] in
        let all : everywhere is_byte (ids ++ s.bytes) ≡ true = cc (everywhere-append is_byte ids s.bytes) in
        let most = size_at_most_1024 s.code in
        let (count, written_count) =
        sector_counts s.track s.side s.sector s.code s.bytes made.fits all in
        rw (le-ltb 6400 (length items) (omega arith), le-ltb 6400 (written_bytes items) (omega arith), no_foreign)

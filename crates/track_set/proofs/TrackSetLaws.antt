-- The set of a track: the entries of its index are what they say, those beyond the count have no data, and so the sectors
-- that are stored are those found. Rests on no axiom.
use Prim.Native.Nat.{ℕ, zero, suc, ◌-◌, ◌≤◌}
use mathlib.Core.Path.{◌≡◌, refl, ◌∙◌}
use mathlib.Core.Bool.{Bool, true, false, cond, not, ◌&&◌}
use mathlib.Core.List.{List, [], ◌∷◌, ◌++◌, map, flat_map}
use native.Mathlib.Omega.{arith}
use borrow.Author.Tests.{leb-true, le-leb}
use lib.Dec.{eqb, leb}
use lib.ListN.{length, drop, replicate}
use Rattle.std.specs.Prelude.{Option, Some, None}
use Rattle.lists.specs.YesNo.{as_number}
use Rattle.lists.specs.Place.{everywhere}
use Rattle.lists.proofs.BoolLaws.{both}
use Rattle.lists.proofs.PlaceLaws.{everywhere_of_none, everywhere_of_passing, everywhere_passes_at_first}
use Rattle.lists.proofs.PlaceLaws.{everywhere_in_rest, everywhere-append}
use Rattle.timing.specs.declared.Profile.{Profile}
use Rattle.entries.specs.FieldKinds.{field_of, is_id, data_bytes, is_data}
use Rattle.entries.specs.Entries.{has_lock, lock_place, field_end, has_data, data_from, id_byte, entry_at, next_start}
use Rattle.entries.specs.Entries.{entries_at, entries_by, entries_from, entries_of}
use Rattle.entries.specs.declared.DataField.{DataField}
use Rattle.entries.specs.declared.Entry.{Entry}
use Rattle.entries.proofs.SearchLaws.{lock_is_ahead}
use Rattle.track.specs.Order.{in_order}
use Rattle.track.specs.Index.{no_entry, padded}
use Rattle.track.specs.HandedBack.{index_entry_of}
use Rattle.track.proofs.InOrderLaws.{ordered_everywhere}
use Rattle.track_set.specs.TrackSectors.{sectors_of, sectors_found}
use Rattle.track_set.specs.machine.Handed.{handed_sectors, Stands}
use Rattle.track_set.proofs.HandedLaws.{AllStand}

module _ (p : Profile) (ds : List ℕ) where
  -- ---- what an entry says of its data is so

  unfoldable data_stands : ℕ → Option DataField → Bool
  data_stands code (Some field) = is_data p (drop field.place ds) code && leb field.place (length ds)
  data_stands code None = true

  unfoldable entry_stands : Entry → Bool
  entry_stands e = data_stands e.code e.field

  data_stands_lem : (start code : ℕ) → data_stands code (data_from p ds start code) ≡ true
  unfolding data_stands data_from has_data
  data_stands_lem start code =
      elim (has_lock p ds start) as (λ t.
      has_lock p ds start ≡ t
      → data_stands code
      (cond (t && is_data p (drop (lock_place p ds start) ds) code)
      (Some (record {
        place = lock_place p ds start;
        holds = (field_of p (drop (lock_place p ds start) ds) (data_bytes code)).holds;
      }))
      None)
      ≡ true) [
        | true ↦ λ lock.
            let ahead = lock_is_ahead p ds start lock in
            let within = le-leb (lock_place p ds start) (length ds) (omega arith) in
            elim (is_data p (drop (lock_place p ds start) ds) code) as (λ u.
            is_data p (drop (lock_place p ds start) ds) code ≡ u
            → data_stands code
            (cond u
            (Some (record {
              place = lock_place p ds start;
              holds = (field_of p (drop (lock_place p ds start) ds) (data_bytes code)).holds;
            }))
            None)
            ≡ true) [
              | true ↦ λ is. rw (is, within)
              | false ↦ λ is. refl
            ]
            refl
        | false ↦ λ none. refl
      ]
      refl

  entries_stand : (searches start : ℕ) → everywhere entry_stands (entries_by p ds searches start) ≡ true
  unfolding entries_by entries_at entry_stands entry_at
  entries_stand zero start = everywhere_of_none entry_stands
  entries_stand (suc searches) start =
      elim (has_lock p ds start) as (λ t.
      everywhere entry_stands
      (cond t
      (entries_at p ds (lock_place p ds start) ++ entries_by p ds searches (next_start p ds (lock_place p ds start)))
      [])
      ≡ true) [
        | true ↦
            let k = lock_place p ds start in
            let rest = entries_by p ds searches (next_start p ds k) in
            elim (is_id p (drop k ds)) as (λ u. everywhere entry_stands (cond u (entry_at p ds k ∷ []) [] ++ rest) ≡ true) [
              | true ↦
                  everywhere_of_passing entry_stands (entry_at p ds k) rest (data_stands_lem (field_end p ds k 10) (id_byte p ds k 7))
                  ∙ entries_stand searches (next_start p ds k)
              | false ↦ entries_stand searches (next_start p ds k)
            ]
        | false ↦ everywhere_of_none entry_stands
      ]

  -- ---- as they are handed back

  number_is_small : (t : Bool) → as_number t ≤ 1
  number_is_small true = omega arith
  number_is_small false = omega arith

  number_tells : (t : Bool) → not (eqb (as_number t) 0) ≡ t
  number_tells true = refl
  number_tells false = refl

  handed_stands
      : (e : Entry) (field : Option DataField)
      → e.field ≡ field
      → data_stands e.code field ≡ true
      → Stands p ds (index_entry_of e)
  unfolding data_stands
  handed_stands e (Some field) is stands =
      let (reads, within) = both (is_data p (drop field.place ds) e.code) (leb field.place (length ds)) stands in
      record {
        one = rw is (omega arith);
        sum = rw is (number_is_small field.holds);
        reads = λ some. rw is reads;
        within = λ some. rw is (leb-true field.place (length ds) within);
      }
  handed_stands e None is stands =
      record {
        one = rw is (omega arith);
        sum = rw is (omega arith);
        reads = λ some. absurd (some (rw is refl));
        within = λ some. absurd (some (rw is refl));
      }

  all_stand : (es : List Entry) → everywhere entry_stands es ≡ true → AllStand p ds (map index_entry_of es)
  unfolding entry_stands
  all_stand [] all = tt
  all_stand (e ∷ es) all = (
    handed_stands e e.field refl (everywhere_passes_at_first entry_stands e es all),
    all_stand es (everywhere_in_rest entry_stands e es all),
  )

  blanks_stand : (n : ℕ) → everywhere entry_stands (replicate n no_entry) ≡ true
  unfolding entry_stands data_stands
  blanks_stand zero = everywhere_of_none entry_stands
  blanks_stand (suc n) = everywhere_of_passing entry_stands no_entry (replicate n no_entry) refl ∙ blanks_stand n

  pub index_stands : AllStand p ds (map index_entry_of (padded (in_order (entries_of p ds))))
  unfolding padded entries_of entries_from
  index_stands =
      let listed : List Entry = in_order (entries_of p ds) in
      all_stand (padded listed)
      (everywhere-append entry_stands listed (replicate (32 - length listed) no_entry)
      ∙ rw (
        ordered_everywhere entry_stands (entries_of p ds) (entries_stand (length ds - 0) 0),
        blanks_stand (32 - length listed),
      ))

  -- ---- the sectors found

  same_sectors : (e : Entry) (field : Option DataField) → e.field ≡ field → handed_sectors p ds (index_entry_of e) ≡ sectors_of p ds e
  unfolding handed_sectors sectors_of
  same_sectors e (Some field) is = rw (is, number_tells field.holds)
  same_sectors e None is = rw is

  all_sectors : (es : List Entry) → flat_map (handed_sectors p ds) (map index_entry_of es) ≡ flat_map (sectors_of p ds) es
  unfolding flat_map
  all_sectors [] = refl
  all_sectors (e ∷ es) = rw (same_sectors e e.field refl, all_sectors es)

  no_more_sectors : (es : List Entry) (n : ℕ) → flat_map (sectors_of p ds) (es ++ replicate n no_entry) ≡ flat_map (sectors_of p ds) es
  unfolding flat_map sectors_of
  no_more_sectors [] zero = refl
  no_more_sectors [] (suc n) = no_more_sectors [] n
  no_more_sectors (e ∷ es) n = rw (no_more_sectors es n)

  pub index_sectors
      : flat_map (handed_sectors p ds) (map index_entry_of (padded (in_order (entries_of p ds)))) ≡ sectors_found p ds
  unfolding padded sectors_found
  index_sectors =
      all_sectors (padded (in_order (entries_of p ds)))
      ∙ no_more_sectors (in_order (entries_of p ds)) (32 - length (in_order (entries_of p ds)))

-- Why the set of a track of made sectors is these sectors by number: each entry of the index has its sector's data, the
-- index ascends, and different numbers leave nothing to the places. Rests on no axiom.
use Rattle.std.specs.Prelude.{Option, Some, None}
use Prim.Native.Nat.{ℕ, suc, ◌≤◌, ◌<◌}
use mathlib.Core.Path.{◌≡◌, refl, sym, ap, ap₂, ◌∙◌, fun_ext}
use mathlib.Core.Bool.{Bool, true, false, cond, true≢false}
use mathlib.Core.List.{List, [], ◌∷◌, ◌++◌, map, flat_map, map-append}
use native.Mathlib.Decide.{dec_le, dec_lt}
use native.Mathlib.Omega.{arith}
use borrow.Author.Tests.{ltb-true, leb-true, le-leb, le-ltb, lt-ltb, eqb-true, eqb-false, not-true, ne_eqb}
use lib.Dec.{eqb, leb, ltb}
use lib.ListN.{length, length-map}
use Rattle.lists.specs.Place.{everywhere}
use Rattle.lists.proofs.PlaceLaws.{everywhere_of_none, everywhere_of_passing, everywhere_passes_at_first}
use Rattle.lists.proofs.PlaceLaws.{everywhere_in_rest}
use Rattle.timing.specs.declared.Profile.{Profile}
use Rattle.items.specs.Written.{written}
use Rattle.fields.specs.Bytes.{byte_of}
use Rattle.sets.specs.Set.{Sector as SetSector}
use Rattle.sets.specs.Held.{Held, Nothing, with_copy, held_of, is_twice, numbers}
use Rattle.merge.specs.Merge.{as_list}
use Rattle.entries.specs.Entries.{entries_of}
use Rattle.entries.specs.declared.DataField.{DataField}
use Rattle.entries.specs.declared.Entry.{Entry}
use Rattle.track.specs.Order.{lower_keys, is_before, in_order, Rearranged, none, one, Ascending}
use Rattle.track.specs.HandedBack.{data_place_of}
use Rattle.track.proofs.InOrderLaws.{ordered_everywhere, ordered_ascends, ordered_has_each}
use Rattle.track.proofs.InsertionLaws.{ordered_length}
use Rattle.track.proofs.FoundLaws.{places_ascend}
use Rattle.track_set.specs.TrackSectors.{data_at, sectors_of, sectors_found}
use Rattle.readback.specs.TrackIndexed.{Sector, items_of_sector, Makes, AllMade, entry_behind, entries_behind}
use Rattle.readback.specs.TrackRead.{other_number, DifferentNumbers, is_data_byte, AllData, as_read, by_number}
use Rattle.readback.proofs.SetOrder.{held_beside, first_alone, rest_once, none_there, other_than_first, only_first}
use Rattle.readback.proofs.SetOrder.{NumbersUp, in_order_lem}
use Rattle.readback.proofs.TrackFound.{AllGiven}
use Rattle.readback.proofs.TrackIndexed.{as_many}

-- ---- the bytes

own_bytes : (bs : List ℕ) → everywhere is_data_byte bs ≡ true → map byte_of bs ≡ bs
unfolding byte_of is_data_byte
own_bytes [] all = refl
own_bytes (b ∷ bs) all =
    let small = ltb-true b 256 (everywhere_passes_at_first is_data_byte b bs all) in
    let same : byte_of b ≡ b = omega arith in
    ap₂ ◌∷◌ same (own_bytes bs (everywhere_in_rest is_data_byte b bs all))

-- ---- the numbers of entries in order

not_higher : (a b : Entry) → is_before a b ≡ true → a.sector ≤ b.sector
unfolding is_before lower_keys
not_higher a b e =
    elim (dec_le a.sector b.sector) [
      | yes h ↦ h
      | no h ↦
          absurd (true≢false (sym (rw (le-ltb a.sector b.sector (omega arith), ne_eqb a.sector b.sector (λ same. omega arith)) at e)))
    ]

less_of_other : (a b : ℕ) → a ≤ b → (a ≡ b → ⊥) → a < b
less_of_other a b h other = elim (dec_lt a b) [ yes less ↦ less | no more ↦ absurd (other (omega arith)) ]

-- ---- the sectors of entries

module _ (p : Profile) (changed : List ℕ) where
  -- data was found, and its sum holds
  unfoldable good_field : Option DataField → Bool
  good_field (Some field) = field.holds
  good_field None = false

  unfoldable is_good : Entry → Bool
  is_good e = good_field e.field

  abbrev sector_from : Entry → SetSector
  sector_from e =
      record {
        number = e.sector;
        code = e.code;
        holds = true;
        bytes = data_at p changed (data_place_of e.field) e.code;
      }

  one_sector : (e : Entry) (field : Option DataField) → e.field ≡ field → good_field field ≡ true
      → sectors_of p changed e ≡ sector_from e ∷ []
  unfolding sectors_of good_field
  one_sector e (Some field) is good = rw (is, good)
  one_sector e None is good = absurd (true≢false (sym good))

  all_sectors : (es : List Entry) → everywhere is_good es ≡ true → flat_map (sectors_of p changed) es ≡ map sector_from es
  unfolding flat_map is_good
  all_sectors [] good = refl
  all_sectors (e ∷ es) good =
      ap₂ ◌++◌ (one_sector e e.field refl (everywhere_passes_at_first is_good e es good))
      (all_sectors es (everywhere_in_rest is_good e es good))

  -- ---- in whatever order

  held_rearranged
      : (n : ℕ) {found list : List Entry}
      → Rearranged found list
      → held_of n (map sector_from found) ≡ held_of n (map sector_from list)
  unfolding held_of
  held_rearranged n none = refl
  held_rearranged n (one {e = e} {found = found} {list = list} before after is rest) =
      let mapped : map sector_from list ≡ map sector_from before ++ (sector_from e ∷ map sector_from after) =
      ap (map sector_from) is ∙ map-append sector_from before (e ∷ after) in
      let others : held_of n (map sector_from found) ≡ held_of n (map sector_from before ++ map sector_from after) =
      held_rearranged n rest ∙ ap (held_of n) (map-append sector_from before after) in
      rw others
      (sym (ap (held_of n) mapped ∙ held_beside n (map sector_from before) (sector_from e) (map sector_from after)))

  -- ---- the entries of sectors

  entries_good : (before : List ℕ) (ss : List Sector) → everywhere is_good (entries_behind before ss) ≡ true
  unfolding entries_behind is_good good_field
  entries_good before [] = everywhere_of_none is_good
  entries_good before (s ∷ ss) =
      everywhere_of_passing is_good (entry_behind before s) (entries_behind (before ++ written (items_of_sector s)) ss) refl
      ∙ entries_good (before ++ written (items_of_sector s)) ss

  as_read_lem
      : (before : List ℕ) (ss : List Sector)
      → AllData ss
      → AllGiven p changed before ss
      → map sector_from (entries_behind before ss) ≡ map as_read ss
  unfolding entries_behind
  as_read_lem before [] bytes given = refl
  as_read_lem before (s ∷ ss) (first, bytes) (given, all) =
      ap₂ ◌∷◌ (ap (λ (bs : List ℕ). record { number = s.sector; code = s.code; holds = true; bytes = bs })
      (given ∙ own_bytes s.bytes first))
      (as_read_lem (before ++ written (items_of_sector s)) ss bytes all)

  -- ---- ascending numbers

  unfoldable is_from : ℕ → Entry → Bool
  is_from k e = leb k e.sector

  unfoldable is_small : Entry → Bool
  is_small e = ltb e.sector 256

  -- what goes behind an entry has a higher number, where none has its own
  higher_behind
      : (x : Entry) (es : List Entry)
      → everywhere (is_before x) es ≡ true
      → held_of x.sector (map sector_from es) ≡ Nothing
      → everywhere (is_from (suc x.sector)) es ≡ true
  unfolding is_from
  higher_behind x [] behind alone = everywhere_of_none (is_from (suc x.sector))
  higher_behind x (e ∷ es) behind alone =
      let (other, rest) = none_there (sector_from e) (map sector_from es) x.sector alone in
      let low = not_higher x e (everywhere_passes_at_first (is_before x) e es behind) in
      let apart : x.sector < e.sector = less_of_other x.sector e.sector low (λ same. other (sym same)) in
      everywhere_of_passing (is_from (suc x.sector)) e es (le-leb (suc x.sector) e.sector apart)
      ∙ higher_behind x es (everywhere_in_rest (is_before x) e es behind) rest

  numbers_up
      : (k : ℕ) (es : List Entry)
      → Ascending es
      → everywhere (is_from k) es ≡ true
      → everywhere is_small es ≡ true
      → ((n : ℕ) → is_twice (held_of n (map sector_from es)) ≡ false)
      → NumbersUp k (map sector_from es)
  unfolding is_from is_small
  numbers_up k [] ascends low small once = tt
  numbers_up k (e ∷ es) (behind, ascends) low small once =
      let alone = first_alone (sector_from e) (map sector_from es) (once e.sector) in (
        leb-true k e.sector (everywhere_passes_at_first (is_from k) e es low),
        ltb-true e.sector 256 (everywhere_passes_at_first is_small e es small),
        numbers_up (suc e.sector) es ascends (higher_behind e es behind alone)
            (everywhere_in_rest is_small e es small)
            (λ n. rest_once (sector_from e) (map sector_from es) n (once n)),
      )

  entries_small : (before : List ℕ) (ss : List Sector) → AllMade ss → everywhere is_small (entries_behind before ss) ≡ true
  unfolding entries_behind is_small
  entries_small before [] made = everywhere_of_none is_small
  entries_small before (s ∷ ss) (makes, made) =
      everywhere_of_passing is_small (entry_behind before s) (entries_behind (before ++ written (items_of_sector s)) ss)
      (lt-ltb s.sector 256 makes.sector)
      ∙ entries_small (before ++ written (items_of_sector s)) ss made

  from_zero : (es : List Entry) → everywhere (is_from 0) es ≡ true
  unfolding is_from
  from_zero [] = everywhere_of_none (is_from 0)
  from_zero (e ∷ es) = everywhere_of_passing (is_from 0) e es (le-leb 0 e.sector (omega arith)) ∙ from_zero es

-- ---- different numbers

pub none_of_number : (s : Sector) (ss : List Sector) → everywhere (other_number s) ss ≡ true → held_of s.sector (map as_read ss) ≡ Nothing
unfolding held_of other_number
none_of_number s [] others = refl
none_of_number s (t ∷ ss) others =
    let other = eqb-false s.sector t.sector (not-true _ (everywhere_passes_at_first (other_number s) t ss others)) in
    rw (ne_eqb t.sector s.sector (λ same. other (sym same)))
    (none_of_number s ss (everywhere_in_rest (other_number s) t ss others))

pub none_twice : (ss : List Sector) → DifferentNumbers ss → (n : ℕ) → is_twice (held_of n (map as_read ss)) ≡ false
unfolding held_of
none_twice [] different n = refl
none_twice (s ∷ ss) (others, different) n =
    elim (eqb s.sector n) as (λ t.
    eqb s.sector n ≡ t
    → is_twice (cond t (with_copy (as_read s) (held_of n (map as_read ss))) (held_of n (map as_read ss))) ≡ false) [
      | true ↦ λ is.
          let alone : held_of n (map as_read ss) ≡ Nothing =
          ap (λ (m : ℕ). held_of m (map as_read ss)) (sym (eqb-true s.sector n is)) ∙ none_of_number s ss others in
          ap (λ (h : Held). is_twice (with_copy (as_read s) h)) alone
      | false ↦ λ other. none_twice ss different n
    ]
    refl

-- ---- the set

module _
    (p : Profile) (changed : List ℕ) (ss : List Sector) (made : AllMade ss) (bytes : AllData ss)
    (different : DifferentNumbers ss) (entries : entries_of p changed ≡ entries_behind [] ss)
    (given : AllGiven p changed [] ss)
  where
    abbrev listed : List Entry
    listed = in_order (entries_behind [] ss)

    listed_sectors : sectors_found p changed ≡ map (sector_from p changed) listed
    unfolding sectors_found
    listed_sectors =
        rw entries (all_sectors p changed listed
        (ordered_everywhere (is_good p changed) (entries_behind [] ss) (entries_good p changed [] ss)))

    same_held : (n : ℕ) → held_of n (map (sector_from p changed) listed) ≡ held_of n (map as_read ss)
    same_held n =
        sym (held_rearranged p changed n (ordered_has_each (entries_behind [] ss)))
        ∙ ap (held_of n) (as_read_lem p changed [] ss bytes given)

    pub set_is_by_number : sectors_found p changed ≡ by_number ss
    unfolding by_number
    set_is_by_number =
        let ascends : Ascending listed = ordered_ascends (entries_behind [] ss) (rw (← entries) (places_ascend p changed)) in
        let small = ordered_everywhere (is_small p changed) (entries_behind [] ss) (entries_small p changed [] ss made) in
        let once : (n : ℕ) → is_twice (held_of n (map (sector_from p changed) listed)) ≡ false = λ n.
        ap is_twice (same_held n) ∙ none_twice ss different n in
        let up = numbers_up p changed 0 listed ascends (from_zero p changed listed) small once in
        listed_sectors
        ∙ sym (in_order_lem (map (sector_from p changed) listed) up)
        ∙ ap (λ (f : ℕ → List SetSector). flat_map f numbers) (fun_ext (λ n. ap as_list (same_held n)))

    pub set_has_all : length (by_number ss) ≡ length ss
    set_has_all =
        ap length (sym set_is_by_number ∙ listed_sectors)
        ∙ length-map listed (sector_from p changed)
        ∙ ordered_length (entries_behind [] ss)
        ∙ as_many ss []

    pub set_held : (n : ℕ) → held_of n (by_number ss) ≡ held_of n (map as_read ss)
    set_held n = ap (held_of n) (sym set_is_by_number ∙ listed_sectors) ∙ same_held n

-- Why a made sector's fields are clear: each interval of its stream is, those of a field are among them, and a field
-- that reads uses some. Rests on no axiom.
use Prim.Native.Nat.{ℕ, ◌+◌, ◌-◌, ◌≤◌, ◌<◌}
use mathlib.Core.Path.{◌≡◌, sym, ap, ◌∙◌}
use mathlib.Core.List.{List}
use native.Mathlib.Omega.{arith}
use native.Mathlib.Nat.{le_refl}
use lib.ListN.{length, get_or, take, drop, length-drop}
use lib.Seq.{length-take-le, get_or-take, get_or-drop, take-add, take-take}
use Rattle.timing.specs.Class.{at_start, cursor_after, classes_of}
use Rattle.timing.specs.declared.Profile.{Profile}
use Rattle.timing.specs.declared.cursor.Cursor.{Cursor}
use Rattle.timing.proofs.ClassLaws.{cursor_after-append}
use Rattle.lengths.specs.Stream.{stream_of}
use Rattle.fields.specs.Field.{field_used}
use Rattle.fields.specs.FieldRule.{FieldAnswer, field_reading}
use Rattle.fields.proofs.ReaderLaws.{used_is_within}
use Rattle.sectors.specs.Sector.{sector_size, sector_items}
use Rattle.clearance.specs.Clearance.{clearance_in, least_clearance}
use Rattle.clearance.specs.Claims.{cursor_at}
use Rattle.clearance.proofs.LeastLaws.{least_is_at_least}
use Rattle.demands.specs.Streams.{AcceptedProfile, Moved}
use Rattle.demands.specs.Demand3.{stated}
use Rattle.demands.proofs.HowNear.{each_is_clear, within_the_margin, unmoved}
use Rattle.demands.proofs.UsedLaws.{field_has_intervals}
use Rattle.readback.specs.SectorReads.{ReadsField, Made, id_place, data_place}
use Rattle.readback.specs.SectorClears.{field_clearance, SectorClears, MadeSectorsClear}
use Rattle.readback.proofs.SectorReads.{made_sectors_read_back, id_stands, data_stands_lem}

-- a field that reads, at a place of a list whose intervals all have so much and where the classing stands as at its start
module _
    (p : Profile) (ds : List ℕ) (e : ℕ)
    (each : (k : ℕ) → k < length ds → e ≤ clearance_in (cursor_at p ds k) (get_or ds k 0)) (place n : ℕ) (items : List ℕ)
    (stands : cursor_after (at_start p) (take place ds) ≡ at_start p) (reads : ReadsField p (drop place ds) n items)
  where
    used : ℕ
    used = field_used (classes_of p (drop place ds)) n

    answer : (field_reading p (drop place ds) n n).used ≡ used
    unfolding used
    answer = cc (reads.answer n (le_refl n))

    uses_some : 0 < used
    uses_some =
        let accepts = ap (λ (a : FieldAnswer). a.answer.number) (reads.answer n (le_refl n)) in
        rw (← answer) (field_has_intervals p (drop place ds) n n accepts)

    within : used ≤ length (drop place ds)
    within = rw (← answer) (used_is_within p (drop place ds) n n)

    abbrev front : List ℕ
    front = take used (drop place ds)

    front_length : length front ≡ used
    front_length = length-take-le used (drop place ds) within

    -- the classing of the field is that of the whole list
    same_cursor : (k : ℕ) → k < used → cursor_at p ds (place + k) ≡ cursor_at p front k
    same_cursor k h =
        ap (cursor_after (at_start p)) (take-add place k ds)
        ∙ cursor_after-append (at_start p) (take place ds) (take k (drop place ds))
        ∙ ap (λ (c : Cursor). cursor_after c (take k (drop place ds))) stands
        ∙ ap (cursor_after (at_start p)) (sym (take-take k used (drop place ds) (omega arith)))

    front_is_clear : (k : ℕ) → k < length front → e ≤ clearance_in (cursor_at p front k) (get_or front k 0)
    front_is_clear k h =
        let below : k < used = rw (← front_length) h in
        let most : used ≤ length ds - place = rw (← length-drop place ds) within in
        rw (get_or-take, get_or-drop, ← same_cursor k below) (each (place + k) (omega arith))

    pub field_is_clear : e ≤ field_clearance p (drop place ds) n
    unfolding used least_clearance
    field_is_clear = least_is_at_least (at_start p) front e (rw front_length uses_some) front_is_clear

module _ (track side sector code : ℕ) (bytes : List ℕ) (made : Made track side sector code bytes)
    (p : Profile) (accepts : AcceptedProfile p)
  where
    abbrev stream : List ℕ
    stream = stream_of p (sector_items track side sector code bytes)

    changed_sector
        : (c : ℕ)
        → c ≤ stated p
        → (changed : List ℕ)
        → Moved c stream changed
        → SectorClears track side sector code bytes p changed (stated p - c)
    changed_sector c few changed moved =
        let items = sector_items track side sector code bytes in
        let each = each_is_clear p accepts items c few changed moved in
        let near = within_the_margin p accepts items c few changed moved in
        let read = made_sectors_read_back track side sector code bytes made p accepts changed near in
        record {
          id_clear =
              field_is_clear p changed _ each id_place 10 _
              (id_stands track side sector code bytes made p accepts changed near) read.id_reads;
          data_clear = field_is_clear p changed _ each (data_place track side sector code bytes) (sector_size code + 6) _
              (data_stands_lem track side sector code bytes made p accepts changed near) read.data_reads;
        }

pub made_sectors_clear : MadeSectorsClear
made_sectors_clear =
    record {
      changed_sector = changed_sector;
      written_sector = λ track side sector code bytes made p accepts.
          let items = sector_items track side sector code bytes in
          let clears =
          changed_sector track side sector code bytes made p accepts 0 (omega arith) _ (unmoved p accepts items) in
          record {
            id_clear = let least = clears.id_clear in omega arith;
            data_clear = let least = clears.data_clear in omega arith;
          };
    }

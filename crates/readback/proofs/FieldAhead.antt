-- A search that has a sync and a field ahead of it: it finds the lock at the field's first mark, the field reads, and
-- after the used intervals the gap behind it is ahead; so from field to field. Rests on no axiom.
use Prim.Native.Nat.{ℕ, zero, suc, ◌+◌, ◌≤◌, ◌<◌}
use mathlib.Core.Path.{◌≡◌, sym, ap, ◌∙◌}
use mathlib.Core.Bool.{true, false}
use mathlib.Core.List.{List, ◌∷◌, ◌++◌, map, map-append, append_assoc, []}
use native.Mathlib.Omega.{arith}
use native.Mathlib.Nat.{le_refl, add-zero}
use lib.ListN.{length, get_or, take, drop, replicate, length-map, length-append, length-replicate, get_or-append}
use lib.ListN.{get_or-replicate}
use lib.Seq.{drop_at, drop-drop, get_or-drop}
use Rattle.lists.specs.Place.{everywhere}
use Rattle.refusal.specs.Answer.{accepted}
use Rattle.timing.specs.Class.{cursor_of, at_start, is_two, cursor_after, class_number, classes_of}
use Rattle.timing.specs.declared.Profile.{Profile}
use Rattle.timing.specs.declared.Class.{Class}
use Rattle.timing.specs.declared.Class.TheVariants.{Narrow, Two, Three}
use Rattle.timing.proofs.ClassLaws.{classes_length, cursor_behind}
use Rattle.timing.proofs.MiddleLaws.{Behind, behind_count}
use Rattle.items.specs.Item.{is_byte}
use Rattle.symbols.specs.Bits.{Bit, O, I, last_of, all_bits}
use Rattle.symbols.specs.Reading.{read_from, read_bits}
use Rattle.symbols.specs.Bytes.{is_gap}
use Rattle.symbols.specs.declared.Cell.{Cell}
use Rattle.symbols.proofs.ReadingLaws.{last_is_no_gap}
use Rattle.intervals.proofs.CellLaws.{class_of_cell}
use Rattle.locks.specs.Lock.{lock_from, find_rule}
use Rattle.fields.specs.Field.{field_cells, field_used}
use Rattle.fields.specs.FieldRule.{FieldAnswer}
use Rattle.locks.proofs.FillerLaws.{passes, lock_after_filler}
use Rattle.locks.proofs.FirstLockLaws.{first_lock_is_found}
use Rattle.fields.proofs.WrittenFieldLaws.{rest_of_cells, used_and_rest, rest_of_field_is_read}
use Rattle.demands.specs.Streams.{AcceptedProfile}
use Rattle.demands.proofs.UsedLaws.{field_has_intervals}
use Rattle.readback.specs.SectorReads.{with_check, ReadsField}
use Rattle.readback.proofs.WrittenSector.{A1}
use Rattle.readback.proofs.CellClasses.{cells, cells_bits, classes_for, cells_classes, mark_classes}
use Rattle.readback.proofs.CellClasses.{filler_classes, filler_classes_lem, ReadBehind, in_step_later, Gap}
use Rattle.readback.proofs.CellClasses.{gap_is_passed}
use Rattle.readback.proofs.CellClasses.{classes_after_run}
use Rattle.readback.proofs.CheckedField.{checked_length, checked_field_is_read}

-- filler without a run, a sync that is long enough, and then bytes
pub record SyncAhead (p : Profile) (changed : List ℕ) (start : ℕ) (ws : List ℕ) : Type 0 where
  pub filler : List Class
  pub more : ℕ
  pub no_run : passes 0 filler ≡ true
  pub classes : classes_of p (drop start changed) ≡ filler ++ (replicate (more + 64) Two ++ classes_for ws)
  -- also where the list is classed as a whole
  pub sync : drop (start + length filler) (classes_of p changed) ≡ replicate (more + 64) Two ++ classes_for ws

-- bytes that begin where a field has ended
pub record BytesAhead (p : Profile) (changed : List ℕ) (start : ℕ) (ws : List ℕ) : Type 0 where
  pub last : Bit
  pub left : List Cell
  pub no_gap : is_gap last ≡ false
  pub whole : drop start (classes_of p changed) ≡ map class_of_cell left
  pub classes : Behind (classes_of p (drop start changed)) (map class_of_cell left)
  pub bits : read_from last left ≡ all_bits ws ++ (O ∷ [])

-- a gap and a sync behind a field
pub gap_and_sync
    : (p : Profile) (changed : List ℕ) (start n : ℕ) (ws : List ℕ)
    → BytesAhead p changed start (replicate (suc n) 0x4e ++ (replicate 12 0x00 ++ ws))
    → SyncAhead p changed start ws
gap_and_sync p changed start n ws ahead =
    let filled = filler_classes_lem ahead.last n ws ahead.left ahead.no_gap ahead.bits in
    let gap = gap_is_passed n (replicate 95 Two ++ classes_for ws) ahead.last (rw filled at ahead.classes) in
    let tail : List Class = replicate 95 Two ++ classes_for ws in
    let counts = behind_count (rw filled at ahead.classes) in
    let long : length gap.filler ≡ length (filler_classes ahead.last n) =
    omega (
      arith,
      ap length gap.classes,
      counts,
      length-append gap.filler tail,
      length-append (filler_classes ahead.last n) tail,
    ) in
    record {
      filler = gap.filler;
      more = 31;
      no_run = gap.no_run;
      classes = gap.classes;
      sync =
          sym (drop-drop (length gap.filler) start (classes_of p changed))
          ∙ ap (drop (length gap.filler)) (ahead.whole ∙ filled)
          ∙ drop_at (filler_classes ahead.last n) tail (length gap.filler) (sym long);
    }

-- a class that is not the default is one of the list
class_is_inside : (cs : List Class) (k : ℕ) → get_or cs k Narrow ≡ Two → k < length cs
class_is_inside [] k e = let z : ◌≡◌ {A = ℕ} 1 2 = ap class_number e in absurd (omega arith)
class_is_inside (c ∷ cs) zero e = omega arith
class_is_inside (c ∷ cs) (suc k) e = let rest = class_is_inside cs k e in omega arith

-- ---- a field that was found

pub record FieldFound (p : Profile) (changed : List ℕ) (start : ℕ) (field rest : List ℕ) : Type 0 where
  pub place : ℕ
  pub lock : find_rule p changed start ≡ accepted place
  pub classes : classes_of p (drop place changed) ≡ classes_for (field ++ rest)
  pub stands : cursor_after (at_start p) (take place changed) ≡ at_start p
  pub reads : ReadsField p (drop place changed) (length field) field
  pub behind
      : (tail : List Bit)
      → all_bits rest ++ (O ∷ []) ≡ O ∷ I ∷ tail
      → BytesAhead p changed (place + field_used (classes_of p (drop place changed)) (length field)) rest

module _
    (p : Profile) (accepts : AcceptedProfile p) (changed : List ℕ) (middle : ReadBehind p changed) (start : ℕ)
    (ws rest : List ℕ) (bytes : everywhere is_byte (A1 ∷ ws) ≡ true) (few : length ws + 3 ≤ 1030)
    (ahead : SyncAhead p changed start (with_check (A1 ∷ ws) ++ rest))
  where
    abbrev field : List ℕ
    field = with_check (A1 ∷ ws)

    abbrev on : ℕ
    on = length ahead.filler + (ahead.more + 64)

    abbrev at : ℕ
    at = start + on

    first_lock : lock_from (classes_of p (drop start changed)) 0 ≡ accepted on
    first_lock =
        let (rest_classes, mark) = mark_classes (drop 1 (field ++ rest)) in
        cc (ahead.classes, mark, lock_after_filler ahead.filler ahead.more rest_classes ahead.no_run)

    there : classes_of p (drop at changed) ≡ classes_for (field ++ rest)
    there =
        ap (classes_of p) (sym (drop-drop on start changed))
        ∙ classes_after_run p (drop start changed) ahead.filler _ (ahead.more + 64) (omega arith) ahead.classes

    -- the interval before the mark is of class 2
    stands_there : cursor_after (at_start p) (take at changed) ≡ at_start p
    unfolding classes_of at_start
    stands_there =
        let k = start + length ahead.filler + (ahead.more + 63) in
        let next : at ≡ suc k = omega arith in
        let run = replicate (ahead.more + 64) Two in
        let two : get_or (classes_of p changed) k Narrow ≡ Two =
        sym (get_or-drop (start + length ahead.filler) (classes_of p changed) (ahead.more + 63) Narrow)
        ∙ ap (λ (cs : List Class). get_or cs (ahead.more + 63) Narrow) ahead.sync
        ∙ get_or-append run (classes_for (field ++ rest)) Narrow (ahead.more + 63)
        (omega (arith, length-replicate (ahead.more + 64) Two))
        ∙ get_or-replicate (ahead.more + 64) (ahead.more + 63) Two Narrow (omega arith) in
        let inside = rw (classes_length p changed) at (class_is_inside (classes_of p changed) k two) in
        rw next (cursor_behind p true changed k inside
        ∙ ap (λ (x : Class). cursor_of p (is_two x)) two)

    all : List Cell
    all = cells (field ++ rest)

    cells_there : classes_of p (drop at changed) ≡ map class_of_cell all
    unfolding all
    cells_there = there ∙ cells_classes (field ++ rest)

    all_bits_lem : read_bits all ≡ O ∷ all_bits (field ++ rest) ++ (O ∷ [])
    unfolding all
    all_bits_lem = cells_bits (field ++ rest)

    is_read : ReadsField p (drop at changed) (length field) field
    is_read =
        let long = checked_length (A1 ∷ ws) in
        checked_field_is_read (A1 ∷ ws) rest all (length field) p (drop at changed)
        bytes (sym long) (omega arith) all_bits_lem accepts cells_there

    used : List Cell
    used = field_cells (map class_of_cell all) (length field)

    used_length : length (map class_of_cell used) ≡ field_used (classes_of p (drop at changed)) (length field)
    unfolding used field_used
    used_length = cc (length-map used class_of_cell, cells_there)

    after : List Cell
    after = rest_of_cells field rest all all_bits_lem

    parted : classes_of p (drop at changed) ≡ map class_of_cell used ++ map class_of_cell after
    unfolding used after
    parted = cc (cells_there, used_and_rest field rest all all_bits_lem, map-append class_of_cell used after)

    abbrev uses : ℕ
    uses = field_used (classes_of p (drop at changed)) (length field)

    -- a field that reads uses some intervals
    uses_some : 0 < uses
    uses_some =
        let answer = is_read.answer (length field) (le_refl (length field)) in
        rw (ap (λ (a : FieldAnswer). a.used) answer) at
        (field_has_intervals p (drop at changed) (length field) (length field)
        (ap (λ (a : FieldAnswer). a.answer.number) answer))

    -- the mark's first interval is not of class 2
    from_mark : drop on (classes_of p (drop start changed)) ≡ classes_for (field ++ rest)
    from_mark =
        let run : List Class = ahead.filler ++ replicate (ahead.more + 64) Two in
        let long : length run ≡ on = simp (length-append, length-replicate) in
        ap (drop on) (ahead.classes ∙ sym (append_assoc ahead.filler _ _))
        ∙ drop_at run (classes_for (field ++ rest)) on long

    mark_is_other : get_or (classes_of p (drop start changed)) on Two ≡ Two → ⊥
    mark_is_other two =
        let (rest_classes, mark) = mark_classes (drop 1 (field ++ rest)) in
        let three : get_or (drop on (classes_of p (drop start changed))) 0 Two ≡ Three = cc (from_mark, mark) in
        let here : Three ≡ Two =
        sym three ∙ get_or-drop on (classes_of p (drop start changed)) 0 Two
        ∙ ap (λ (k : ℕ). get_or (classes_of p (drop start changed)) k Two) (add-zero on) ∙ two in
        let z : ◌≡◌ {A = ℕ} 3 2 = ap class_number here in
        omega arith

    left_there : drop (at + uses) (classes_of p changed) ≡ map class_of_cell after
    left_there =
        sym (drop-drop uses at (classes_of p changed))
        ∙ ap (drop uses) (sym (drop-drop on start (classes_of p changed)))
        ∙ in_step_later (middle start) on mark_is_other uses uses_some
        ∙ ap (drop uses) (from_mark ∙ sym there ∙ parted)
        ∙ drop_at (map class_of_cell used) (map class_of_cell after) uses used_length

    bytes_behind
        : (tail : List Bit)
        → all_bits rest ++ (O ∷ []) ≡ O ∷ I ∷ tail
        → BytesAhead p changed (at + field_used (classes_of p (drop at changed)) (length field)) rest
    unfolding used after
    bytes_behind tail begins =
        record {
          last = last_of O (read_bits used);
          left = after;
          no_gap = last_is_no_gap used;
          whole = left_there;
          classes = rw left_there at (middle (at + uses));
          bits = rest_of_field_is_read field rest all all_bits_lem tail begins;
        }

    pub field_found : FieldFound p changed start field rest
    field_found =
        record {
          place = at;
          lock = first_lock_is_found p changed start on accepts first_lock;
          classes = there;
          stands = stands_there;
          reads = is_read;
          behind = bytes_behind;
        }

-- Why a slow drive reads what was written: put the used numbers in the place of the lengths as written. The list that
-- results is near the stream, so that it has the stream's classes and its room; and the used numbers decide. Rests on no
-- axiom.
use Prim.Native.Nat.{ℕ, ◌+◌, ◌-◌, ◌≤◌, ◌<◌}
use mathlib.Core.Path.{◌≡◌, refl, sym, ap, ◌∙◌}
use mathlib.Core.Bool.{true}
use mathlib.Core.List.{List, ◌++◌, map}
use native.Mathlib.Decide.{dec_lt}
use native.Mathlib.Omega.{arith}
use borrow.Author.Tests.{eq-eqb}
use lib.ListN.{length, get_or, take, drop, length-append, length-drop, take-append-drop}
use lib.Seq.{length-take-le, take-append_seam, take-append-le, drop_at, take_at, take-add, get_or-take, get_or-drop}
use lib.Seq.{get_or-append-add}
use Rattle.refusal.specs.Answer.{Answer}
use Rattle.timing.specs.Class.{cursor_of, at_start, cursor_after, classes_from, classes_of}
use Rattle.timing.specs.declared.Profile.{Profile}
use Rattle.timing.specs.declared.cursor.Cursor.{Cursor}
use Rattle.timing.proofs.ClassLaws.{classes_drop, classes_from_start, cursor_after-append}
use Rattle.timing.proofs.ProfileLaws.{kept}
use Rattle.items.specs.Written.{written}
use Rattle.symbols.specs.Cells.{written_cells}
use Rattle.lengths.specs.Stream.{stream_of}
use Rattle.lengths.specs.Units.{class_of_units}
use Rattle.lengths.specs.Margin.{after_two}
use Rattle.lengths.proofs.MarginLaws.{margin_leaves_room}
use Rattle.lengths.proofs.NearLaws.{Near, near_streams_are_equally_long, near_at, near_of_each, near_itself}
use Rattle.lengths.proofs.WindowLaws.{near_stream_has_classes, near_stream_is_passed}
use Rattle.fields.specs.FieldRule.{field_rule, field_reading, field_output}
use Rattle.fields.proofs.ReaderLaws.{used_is_within}
use Rattle.clearance.specs.Clearance.{clearance_in, least_clearance}
use Rattle.clearance.specs.Claims.{cursor_at}
use Rattle.clearance.specs.Answers.{ClearFieldAnswer, field_with_clearance}
use Rattle.clearance.proofs.AgreeLaws.{two_lists_that_agree_in_all}
use Rattle.clearance.proofs.LeastLaws.{least_is_at_least}
use Rattle.speed.specs.Speed.{corrected_at}
use Rattle.speed.proofs.ReadLaws.{field_is_read, output_is}
use Rattle.demands.specs.Streams.{AcceptedProfile}
use Rattle.demands.specs.Demand3.{stated}
use Rattle.demands.proofs.Demand3.{stated_is_the_margin}
use Rattle.demands.proofs.HowNear.{near_is_clear}
use Rattle.demands.proofs.RestLaws.{field_answer}
use Rattle.demands.proofs.UsedLaws.{field_has_intervals}
use Rattle.readback.specs.SlowReads.{written_from, WithinOf, SlowDrivesReadAsWritten}

-- ---- lists near lists, in parts

module _ (xs ys : List ℕ) (k : ℕ) where
  in_first : k < length xs → get_or (xs ++ ys) k 0 ≡ get_or xs k 0
  in_first h = sym (get_or-take (length xs) (xs ++ ys) k 0 h) ∙ ap (λ (l : List ℕ). get_or l k 0) (take-append_seam xs ys)

  in_second : length xs ≤ k → get_or (xs ++ ys) k 0 ≡ get_or ys (k - length xs) 0
  in_second h =
      let place : k ≡ length xs + (k - length xs) = omega (arith, h) in
      ap (λ (j : ℕ). get_or (xs ++ ys) j 0) place ∙ get_or-append-add xs ys (k - length xs) 0

near_in_parts
    : (m : ℕ) (ds es ls ks : List ℕ) → Near m ds ls → Near m es ks → Near m (ds ++ es) (ls ++ ks)
near_in_parts m ds es ls ks first second =
    let same = near_streams_are_equally_long m ds ls first in
    let rest = near_streams_are_equally_long m es ks second in
    near_of_each m (ds ++ es) (ls ++ ks) (omega (arith, same, rest, length-append ds es, length-append ls ks)) (λ k h.
    elim (dec_lt k (length ls)) [
      | yes below ↦
          rw (in_first ds es k (omega (arith, below, same)), in_first ls ks k below) (near_at m ds ls first k)
      | no above ↦
          let place : k - length ds ≡ k - length ls = omega (arith, same) in
          rw (in_second ds es k (omega (arith, above, same)), in_second ls ks k (omega (arith, above)), place)
          (near_at m es ks second (k - length ls))
    ])

module _
    (p : Profile) (accepts : AcceptedProfile p) (items es : List ℕ) (lock n c : ℕ) (old : List ℕ)
    (inside : lock ≤ length (stream_of p items)) (two : after_two (written_cells (written items)) lock ≡ true)
    (few : c ≤ stated p)
    (reads : (field_rule p (written_from p items lock) n (length old)).number ≡ 0)
    (within : WithinOf c (field_reading p (written_from p items lock) n (length old)).used es (written_from p items lock))
  where
    abbrev stream : List ℕ
    stream = stream_of p items

    abbrev ls : List ℕ
    ls = written_from p items lock

    abbrev used : ℕ
    used = (field_reading p ls n (length old)).used

    used_of_written : used ≤ length ls
    used_of_written = used_is_within p ls n (length old)

    -- the used numbers in the place of the lengths
    abbrev placed : List ℕ
    placed = take used es ++ drop used ls

    abbrev changed : List ℕ
    changed = take lock stream ++ placed

    used_are_near : Near c (take used es) (take used ls)
    used_are_near =
        let own : length (take used es) ≡ used = length-take-le used es within.there in
        let theirs : length (take used ls) ≡ used = length-take-le used ls used_of_written in
        near_of_each c (take used es) (take used ls) (own ∙ sym theirs) (λ k h.
        let below : k < used = omega (arith, h, theirs) in
        rw (get_or-take used es k 0 below, get_or-take used ls k 0 below)
        (within.no_longer k below, within.no_shorter k below))

    near : Near c changed stream
    near =
        let whole : take lock stream ++ (take used ls ++ drop used ls) ≡ stream =
        ap (λ (l : List ℕ). take lock stream ++ l) (take-append-drop used ls) ∙ take-append-drop lock stream in
        rw whole at
        (near_in_parts c (take lock stream) placed (take lock stream) (take used ls ++ drop used ls)
        (near_itself c (take lock stream))
        (near_in_parts c (take used es) (drop used ls) (take used ls) (drop used ls) used_are_near
        (near_itself c (drop used ls))))

    -- ---- the classes from the lock on

    front_length : length (take lock stream) ≡ lock
    front_length = length-take-le lock stream inside

    behind : drop lock changed ≡ placed
    behind = drop_at (take lock stream) placed lock front_length

    module _ (list : List ℕ) (close : Near c list stream) where
      within_the_margin : Near (stated p) list stream
      within_the_margin =
          near_of_each (stated p) list stream (near_streams_are_equally_long c list stream close) (λ k h.
          let (longer, shorter) = near_at c list stream close k in
          (omega (arith, longer, few), omega (arith, shorter, few)))

      -- the classing stands there as at a start
      stands : cursor_after (at_start p) (take lock list) ≡ at_start p
      unfolding stream_of at_start
      stands =
          let room = rw (← stated_is_the_margin p accepts) at (margin_leaves_room (kept p accepts)) in
          near_stream_is_passed room (kept p accepts) (written items) list within_the_margin lock inside
          ∙ ap (cursor_of p) two

      classes_behind : classes_of p (drop lock list) ≡ drop lock (map class_of_units (written_cells (written items)))
      unfolding stream_of
      classes_behind =
          let room = rw (← stated_is_the_margin p accepts) at (margin_leaves_room (kept p accepts)) in
          classes_from_start p (drop lock list)
          ∙ ap (λ (k : Cursor). classes_from k (drop lock list)) (sym stands)
          ∙ sym (classes_drop (at_start p) lock list)
          ∙ ap (drop lock) (sym (classes_from_start p list)
          ∙ near_stream_has_classes room (kept p accepts) (written items) list within_the_margin)

    same_classes : classes_of p placed ≡ classes_of p ls
    same_classes =
        ap (classes_of p) (sym behind)
        ∙ classes_behind changed near
        ∙ sym (classes_behind stream (near_itself c stream))

    -- ---- the field

    same_rule : field_rule p placed n (length old) ≡ field_rule p ls n (length old)
    unfolding field_rule
    same_rule = rw same_classes

    same_reading : field_reading p placed n (length old) ≡ field_reading p ls n (length old)
    unfolding field_reading
    same_reading = rw (same_rule, same_classes)

    same_output : field_output p placed n old ≡ field_output p ls n old
    unfolding field_output
    same_output = rw (same_rule, same_classes)

    own_length : length (take used es) ≡ used
    own_length = length-take-le used es within.there

    decided
        : (field_with_clearance p es n (length old) ≡ field_with_clearance p placed n (length old))
        × (field_output p es n old ≡ field_output p placed n old)
    decided =
        two_lists_that_agree_in_all p n placed es old (ap (λ (a : Answer). a.number) same_rule ∙ reads)
        (rw same_reading (sym (take_at (take used es) (drop used ls) used own_length)))

    read_as : field_reading p es n (length old) ≡ field_reading p ls n (length old)
    unfolding field_with_clearance
    read_as = ap (λ (f : ClearFieldAnswer). f.reading) decided.0 ∙ same_reading

    pub read_with : (field_with_clearance p es n (length old)).reading ≡ field_reading p ls n (length old)
    unfolding field_with_clearance
    read_with = read_as

    pub stored : field_output p es n old ≡ field_output p ls n old
    stored = decided.1 ∙ same_output

    -- ---- its clearance

    abbrev front : List ℕ
    front = take used es

    uses_some : 0 < used
    uses_some =
        field_has_intervals p ls n (length old) (ap (λ (a : Answer). a.number) (field_answer p ls n (length old)) ∙ reads)

    same_cursor : (k : ℕ) → k < used → cursor_at p changed (lock + k) ≡ cursor_at p front k
    same_cursor k h =
        ap (cursor_after (at_start p)) (take-add lock k changed)
        ∙ cursor_after-append (at_start p) (take lock changed) (take k (drop lock changed))
        ∙ ap (λ (b : Cursor). cursor_after b (take k (drop lock changed))) (stands changed near)
        ∙ ap (λ (l : List ℕ). cursor_after (at_start p) (take k l)) behind
        ∙ ap (cursor_after (at_start p)) (take-append-le k front (drop used ls) (omega (arith, h, own_length)))

    front_is_clear : (k : ℕ) → k < length front → stated p - c ≤ clearance_in (cursor_at p front k) (get_or front k 0)
    front_is_clear k h =
        let below : k < used = omega (arith, h, own_length) in
        let long = near_streams_are_equally_long c changed stream near in
        let here : get_or changed (lock + k) 0 ≡ get_or front k 0 =
        sym (get_or-drop lock changed k 0) ∙ ap (λ (l : List ℕ). get_or l k 0) behind ∙ in_first front (drop used ls) k h in
        rw (sym (same_cursor k below), sym here)
        (near_is_clear p accepts items c few changed near (lock + k)
        (omega (arith, below, used_of_written, length-drop lock stream, long)))

    pub clear : stated p - c ≤ (field_with_clearance p es n (length old)).clearance
    unfolding field_with_clearance least_clearance
    clear =
        let answer : (field_reading p ls n (length old)).answer.number ≡ 0 =
        ap (λ (a : Answer). a.number) (field_answer p ls n (length old)) ∙ reads in
        rw (read_as, eq-eqb _ 0 answer)
        (least_is_at_least (at_start p) front (stated p - c) (omega (arith, uses_some, own_length)) front_is_clear)

pub slow_drives_read_as_written : SlowDrivesReadAsWritten
slow_drives_read_as_written p accepts items ds lock n c old on_speed inside two few reads within =
    let es = corrected_at p ds lock in
    let field = field_is_read p ds lock n (length old) on_speed in
    record {
      reading =
          ap (λ (f : ClearFieldAnswer). f.reading) field
          ∙ read_with p accepts items es lock n c old inside two few reads within;
      output =
          sym (output_is p ds lock n old on_speed) ∙ stored p accepts items es lock n c old inside two few reads within;
      clear = rw field (clear p accepts items es lock n c old inside two few reads within);
    }

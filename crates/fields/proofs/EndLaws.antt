-- The end of the pass over a field: an interval among the used ones that is no cell is the paper's stop; else the field's
-- cells are those that were read, and the machine tells whether they are enough and whether a gap of theirs is out of
-- place. Rests on no axiom.
use Prim.Native.Nat.{ℕ, ◌+◌, ◌-◌, ◌≤◌, ◌<◌}
use mathlib.Core.Path.{◌≡◌, refl, sym, ap, ◌∙◌}
use mathlib.Core.Bool.{Bool, true, false}
use mathlib.Core.List.{List, [], map}
use mathlib.Core.Logic.{inl, inr}
use native.Mathlib.Omega.{arith}
use borrow.Author.Tests.{ltb-false, eqb-false}
use lib.Dec.{ltb}
use lib.ListN.{length, take, length-map}
use Rattle.refusal.specs.Table.{number_of, place_of}
use Rattle.refusal.specs.Answer.{Answer, accepted, refused, refuse_if, first_refusal}
use Rattle.refusal.specs.declared.Refusal.{Refusal}
use Rattle.refusal.proofs.AnswerLaws.{refusal_decides, first_refusal_accepts, first_refusal_passes, number_is_not_zero}
use Rattle.timing.specs.Profile.{profile_rule}
use Rattle.timing.specs.Class.{at_start, classes_of}
use Rattle.timing.specs.machine.Edges.{units_from}
use Rattle.timing.specs.declared.Profile.{Profile}
use Rattle.timing.specs.declared.Class.{Class}
use Rattle.timing.proofs.ClassLaws.{classes_from_start}
use Rattle.timing.proofs.EdgeLaws.{accepted_ascends}
use Rattle.timing.proofs.UnitsLaws.{units_count}
use Rattle.half_cells.specs.machine.Candidate.{candidate}
use Rattle.symbols.specs.Bits.{O}
use Rattle.symbols.specs.Bytes.{items_read}
use Rattle.symbols.specs.Reading.{units, read_from, read_bits}
use Rattle.symbols.specs.machine.Step.{fresh_reading, stray_now, place_now}
use Rattle.symbols.specs.declared.Cell.{Cell}
use Rattle.symbols.specs.declared.Reading.{Reading}
use Rattle.symbols.proofs.UnitLaws.{cells_at_most_bits, length_by_units}
use Rattle.symbols.proofs.ReadsLaws.{Reads, reads_fresh}
use Rattle.symbols.proofs.AnswerLaws.{reads_stray, reads_place}
use Rattle.symbols.proofs.RunLaws.{machine_runs, items_ran}
use Rattle.intervals.specs.Cells.{edge_rule}
use Rattle.shifts.specs.machine.Pass.{Passed, passed}
use Rattle.shifts.specs.declared.Pass.{Pass}
use Rattle.intervals.proofs.CellLaws.{class_of_cell, cell_of_units}
use Rattle.intervals.proofs.TakenAsLaws.{taken_cells, units_of_taken_cells, classes_are_taken_as}
use Rattle.fields.specs.Field.{bits_wanted, field_stop, field_cells, field_used, field_items}
use Rattle.fields.specs.machine.Gather.{gather_rule}
use Rattle.fields.specs.machine.End.{field_passed, items_passed, end_rule}
use Rattle.fields.proofs.TakenLaws.{SameFront}
use Rattle.fields.proofs.EnoughLaws.{classes_of_cells, used_of_cells}
use Rattle.fields.proofs.FieldLaws.{field_bits_few, field_used_at_most, field_items_of_cells}
use Rattle.fields.proofs.FieldLaws.{field_stray_of_cells, field_place_of_cells}
use Rattle.fields.proofs.RuleLaws.{gather_stops_nowhere, gather_meets_no_stray}
use Rattle.fields.proofs.AgreeLaws.{same_items, same_gather}
use Rattle.fields.proofs.FieldPassLaws.{Ran, still_wanted, pass_over_field}
use Rattle.fields.proofs.TakenFieldLaws.{TakenField, taken_field}

-- ---- a field of cells

-- the cell after which the field's bits are known leaves one bit more at most
held_at_end
    : (m : Reading) (xs : List Cell) (n : ℕ)
    → Reads m xs
    → 0 < n
    → n ≤ m.words
    → length (read_bits xs) ≤ bits_wanted n + 1
    → m.held ≤ 4
unfolding fresh_reading
held_at_end m xs n (inl e) some h bits = absurd (omega (arith, ap (λ (r : Reading). r.words) e.0))
held_at_end m xs n (inr so_far) some h bits = omega (arith, so_far.0.held, length_by_units xs)

same_end
    : (t : Bool) (place place' used : ℕ)
    → (t ≡ true → place ≡ place')
    → refuse_if t 8 place (accepted used) ≡ refuse_if t 8 place' (accepted used)
same_end true place place' used e = ap (refused 8) (e refl)
same_end false place place' used e = refl

module _ (xs : List Cell) (n : ℕ) (some : 0 < n) (few : n ≤ 1030) where
  abbrev cs : List Class
  cs = classes_of_cells xs

  abbrev cells : List Cell
  cells = field_cells cs n

  abbrev pass : Passed
  pass = passed n (map units xs)

  abbrev m : Reading
  m = pass.end.reading

  over : Ran 0 fresh_reading cells pass
  over = pass_over_field n some few xs

  all_used : pass.end.used ≡ length cells
  all_used = omega (arith, over.used)

  cells_are_few : length cells ≤ 10000
  unfolding read_bits
  cells_are_few = omega (arith, cells_at_most_bits O cells, field_bits_few cs n)

  reads : Reads m cells
  reads = rw over.reading (machine_runs fresh_reading [] cells reads_fresh (omega (arith, cells_are_few))).reads

  stop_of_cells : field_stop cs n ≡ refuse_if (ltb m.words n) 11 0 (accepted 0)
  unfolding field_stop field_cells read_bits
  stop_of_cells = rw (still_wanted n some reads _ _ refl refl) (used_of_cells xs 0 (bits_wanted n) O).stop

  end_by
      : (short : Bool)
      → ltb m.words n ≡ short
      → field_stop cs n ≡ refuse_if short 11 0 (accepted 0)
      → refuse_if short 11 0 (refuse_if (stray_now m) 8 (place_now m (length cells - 1)) (accepted (length cells)))
      ≡ gather_rule cs n
  unfolding gather_rule field_used
  end_by true e stop = rw stop
  end_by false e stop =
      let whole = ap (λ (a : Answer). a.number) stop in
      let held = held_at_end m cells n reads some (ltb-false _ _ e) (field_bits_few cs n) in
      let stray = reads_stray m cells reads held in
      rw (stop, field_stray_of_cells cs n whole, field_place_of_cells cs n whole, ← stray)
      (same_end (stray_now m) _ _ _ (λ is. reads_place m cells reads held (sym stray ∙ is)))

  end_of_cells : end_rule m pass.end.used n ≡ gather_rule cs n
  unfolding end_rule
  end_of_cells = rw all_used (end_by _ refl stop_of_cells)

  items_of_cells : (gather_rule cs n).number ≡ 0 → map candidate pass.words ≡ field_items cs n
  unfolding items_read read_bits read_from
  items_of_cells accepts =
      let whole = gather_stops_nowhere cs n accepts in
      let in_place = sym (field_stray_of_cells cs n whole) ∙ gather_meets_no_stray cs n accepts in
      ap (map candidate) over.words
      ∙ sym (field_items_of_cells cs n whole
      ∙ items_ran fresh_reading [] cells reads_fresh (omega (arith, cells_are_few)) in_place)

-- ---- a field of intervals, each taken as a cell

-- a refusal is no acceptance
pub refusal_is_not_zero
    : (r : Refusal) (a : Answer) → refused (number_of r) (place_of r) ≡ a → a.number ≡ 0 → ⊥
refusal_is_not_zero r a e zero =
    eqb-false (number_of r) 0 (number_is_not_zero r) (ap (λ (a : Answer). a.number) e ∙ zero)

module _ (p : Profile) (ds : List ℕ) (n : ℕ) (r : Pass) where
  abbrev pub rule : Answer
  rule = gather_rule (classes_of p ds) n

  -- 5 and 6 in the used intervals
  abbrev pub edges : Answer
  edges = edge_rule (take r.used (classes_of p ds))

  pub record FieldEnds : Type 0 where
    pub small : r.used ≤ 10000
    pub within : r.used ≤ length ds
    pub refuses : (q : Refusal) → refused (number_of q) (place_of q) ≡ edges → refused (number_of q) (place_of q) ≡ rule
    pub answers : edges.number ≡ 0 → end_rule r.reading r.used n ≡ rule
    pub items
        : edges.number ≡ 0
        → rule.number ≡ 0
        → items_passed p ds n ≡ field_items (classes_of p ds) n

  module _
      (accepts : (profile_rule p).number ≡ 0) (range : (1 ≤ n) × (n ≤ 1030))
      (read : r ≡ (field_passed p ds n).end)
    where
      abbrev xs : List Cell
      xs = taken_cells (at_start p) ds

      same_pass : field_passed p ds n ≡ passed n (map units xs)
      same_pass = ap (passed n) (sym (units_of_taken_cells (at_start p) ds))

      same_end_of_pass : r ≡ (passed n (map units xs)).end
      same_end_of_pass = read ∙ ap (λ (q : Passed). q.end) same_pass

      used_is : r.used ≡ length (field_cells (classes_of_cells xs) n)
      used_is = rw same_end_of_pass (all_used xs n range.0 range.1)

      taken : TakenField (classes_of p ds) xs 0 (bits_wanted n) O
      taken =
          taken_field (rw (classes_from_start p ds) (classes_are_taken_as (at_start p) ds (accepted_ascends p accepts))) 0
          (bits_wanted n) O

      stop_is : field_stop (classes_of p ds) n ≡ first_refusal edges (field_stop (classes_of_cells xs) n)
      unfolding field_stop field_cells edge_rule
      stop_is = rw used_is taken.stop

      same_front : edges.number ≡ 0 → SameFront (classes_of_cells xs) (classes_of p ds) 0 (bits_wanted n) O
      unfolding field_stop field_cells edge_rule
      same_front fair =
          record { cells = taken.cells (rw used_is at fair); stop = stop_is ∙ first_refusal_passes edges _ fair }

      pub field_ends : FieldEnds
      unfolding gather_rule field_used
      field_ends =
          let (some, few) = range in
          record {
            small = rw used_is (cells_are_few xs n some few);
            within =
                omega (
                  arith,
                  used_is,
                  field_used_at_most (classes_of_cells xs) n,
                  length-map xs class_of_cell,
                  length-map (units_from (at_start p) ds) cell_of_units,
                  units_count (at_start p) ds,
                );
            refuses = λ q e.
                refusal_decides q (field_stop (classes_of p ds) n) _ (refusal_decides q edges _ e ∙ sym stop_is);
            answers = λ fair.
                rw same_end_of_pass (end_of_cells xs n some few) ∙ sym (same_gather n (same_front fair));
            items = λ fair zero.
                rw same_pass (items_of_cells xs n some few (rw (same_gather n (same_front fair)) at zero))
                ∙ sym (same_items n (same_front fair));
          }

      -- where the field reads, none of the used intervals is narrow or wide, and its items are those that were passed
      pub items_passed_lem : rule.number ≡ 0 → items_passed p ds n ≡ field_items (classes_of p ds) n
      items_passed_lem zero =
          let whole = gather_stops_nowhere (classes_of p ds) n zero in
          let stopped = ap (λ (a : Answer). a.number) (sym stop_is) ∙ whole in
          field_ends.items (first_refusal_accepts edges (field_stop (classes_of_cells xs) n) stopped).0 zero

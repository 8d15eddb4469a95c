-- The strip reader's answers by its passes: where every interval is a cell, a pass gives the machine's answer, which is
-- the strip's, and then the room decides. Rests on no axiom.
use Prim.Native.Nat.{ℕ, ◌+◌, ◌-◌, ◌≤◌, ◌<◌}
use mathlib.Core.Path.{◌≡◌, refl, sym, ap, ◌∙◌}
use mathlib.Core.List.{List, ◌++◌, map}
use native.Mathlib.Omega.{arith}
use native.Mathlib.Nat.{zero-add}
use lib.Dec.{ltb}
use lib.ListN.{length, take, drop, length-map}
use borrow.Author.Tests.{lt-ltb, le-ltb}
use Rattle.lists.specs.Filled.{stored_at}
use Rattle.lists.proofs.StoreLaws.{stored_at_front_fills, mapped_at_front}
use Rattle.std.specs.Prelude.{Result, Err}
use Rattle.refusal.specs.Table.{number_of, place_of}
use Rattle.refusal.specs.Answer.{Answer, accepted, refused, refuse_if, first_refusal, verdict_answer}
use Rattle.refusal.specs.declared.Refusal.{Refusal}
use Rattle.refusal.specs.declared.Refusal.TheVariants.{OutputTooShort}
use Rattle.refusal.proofs.AnswerLaws.{first_refusal_passes, refusal_decides, verdict_refuses, refusal_keeps_the_buffer}
use Rattle.timing.specs.Profile.{profile_rule}
use Rattle.timing.specs.Class.{at_start, classes_of}
use Rattle.timing.specs.machine.Edges.{units_from}
use Rattle.timing.specs.declared.Profile.{Profile}
use Rattle.timing.proofs.ClassLaws.{classes_from_start, classes_length}
use Rattle.timing.proofs.EdgeLaws.{accepted_ascends}
use Rattle.half_cells.specs.machine.Candidate.{candidate}
use Rattle.symbols.specs.Strip.{strip_rule, strip_items}
use Rattle.symbols.specs.machine.Step.{fresh_reading, ran, ran_words, strip_answer}
use Rattle.symbols.specs.declared.Cell.{Cell}
use Rattle.symbols.proofs.RoundTripLaws.{rule_of_write, write_of_read}
use Rattle.symbols.proofs.RunLaws.{strip_by_ran}
use Rattle.intervals.specs.Cells.{edge_rule, cells_read}
use Rattle.shifts.specs.machine.Pass.{Passed, passed}
use Rattle.shifts.specs.declared.Pass.{Pass}
use Rattle.intervals.proofs.ClassCellLaws.{cells_at_most_classes}
use Rattle.intervals.proofs.TakenAsLaws.{taken_cells, units_of_taken_cells, classes_are_taken_as, taken_are_cells}
use Rattle.shifts.proofs.PassLaws.{pass_over_all}
use Rattle.codec.specs.Reader.{items_of_stream, read_rule, read_output}

-- an accepted strip's number is that of its items
accepted_counts_items : (xs : List Cell) (n : ℕ) → accepted n ≡ strip_rule xs → n ≡ length (strip_items xs)
accepted_counts_items xs n e =
    let w = write_of_read xs (cc e) in
    ap (λ (a : Answer). a.count)
    (e ∙ rule_of_write (strip_items xs) xs w.bytes (omega (arith, w.count, w.few)) (sym w.cells))

module _ (p : Profile) (ds old : List ℕ) where
  abbrev Answers : Answer → List ℕ → Type 0
  Answers answer out = (answer ≡ read_rule p ds (length old)) × (out ≡ read_output p ds old)

  abbrev Refuses : Refusal → Type 0
  Refuses r = Answers (refused (number_of r) (place_of r)) old

  refuses : (r : Refusal) → refused (number_of r) (place_of r) ≡ read_rule p ds (length old) → Refuses r
  unfolding read_output
  refuses r rule = (rule, refusal_keeps_the_buffer r _ _ _ rule)

  module _ (accepts : (profile_rule p).number ≡ 0) where
    module _ (few : length ds ≤ 51202) where
      pub edge_refuses
          : (v : Result (Unit {0}) Refusal) (r : Refusal)
          → verdict_answer v ≡ edge_rule (classes_of p ds)
          → v ≡ Err r
          → Refuses r
      unfolding read_rule
      edge_refuses v r e q = refuses r (rw (first_refusal_passes, le-ltb) (verdict_refuses v r _ _ e q))

      module _ (fair : (edge_rule (classes_of p ds)).number ≡ 0) where
        abbrev cs : List Cell
        cs = cells_read p ds

        abbrev pass : Passed
        pass = passed 51202 (units_from (at_start p) ds)

        cells : taken_cells (at_start p) ds ≡ cs
        unfolding edge_rule cells_read
        cells =
            sym
            (taken_are_cells 0
            (rw (classes_from_start p ds) (classes_are_taken_as (at_start p) ds (accepted_ascends p accepts))) fair)

        few_cells : length cs ≤ 51202
        unfolding cells_read
        few_cells = omega (arith, cells_at_most_classes (classes_of p ds), classes_length p ds)

        whole
            : (pass.end ≡ record { reading = ran fresh_reading 0 cs; used = 0 + length cs })
            × (pass.words ≡ ran_words fresh_reading 0 cs)
        unfolding passed fresh_reading
        whole =
            let most = few_cells in
            rw (← units_of_taken_cells (at_start p) ds, cells)
            (pass_over_all cs 51202 0 fresh_reading (omega arith) (omega arith))

        module _ (r : Pass) (read : r ≡ pass.end) where
          pub used_is_small : r.used ≤ 51202
          used_is_small = rw (read, whole.0) (omega (arith, few_cells))

          machine_answers : strip_answer r.reading (r.used - 1) ≡ strip_rule cs
          machine_answers = rw (read, whole.0, zero-add, (strip_by_ran cs (omega (arith, few_cells))).0)

          -- what the strip reads as
          pub strip_is
              : (answer : Answer) (last : ℕ)
              → answer ≡ strip_answer r.reading last
              → last ≡ r.used - 1
              → answer ≡ strip_rule cs
          strip_is answer last told is_last = told ∙ ap (strip_answer r.reading) is_last ∙ machine_answers

        from_strip
            : read_rule p ds (length old)
            ≡ first_refusal (strip_rule cs)
            (refuse_if (ltb (length old) (length (strip_items cs))) 9 0 (accepted (length (strip_items cs))))
        unfolding read_rule items_of_stream
        from_strip = rw (first_refusal_passes, le-ltb, first_refusal_passes)

        pub strip_refuses : (r : Refusal) → refused (number_of r) (place_of r) ≡ strip_rule cs → Refuses r
        strip_refuses r e = refuses r (rw from_strip (refusal_decides r (strip_rule cs) _ e))

        module _ (n : ℕ) (counts : accepted n ≡ strip_rule cs) where
          number_of_items : n ≡ length (strip_items cs)
          number_of_items = accepted_counts_items cs n counts

          by_room : read_rule p ds (length old) ≡ refuse_if (ltb (length old) n) 9 0 (accepted n)
          by_room = rw (from_strip, ← counts, ← number_of_items)

          pub room_refuses : length old < n → Refuses OutputTooShort
          room_refuses h = refuses OutputTooShort (rw (by_room, lt-ltb))

          -- as many words as items, each replaced by its item where it stands
          pub room_accepts
              : n ≤ length old
              → (stored : List ℕ)
              → stored ≡ stored_at old 0 pass.words
              → Answers (accepted n) (map candidate (take n stored) ++ drop n stored)
          unfolding read_output items_of_stream
          room_accepts h stored e =
              let gathered : map candidate pass.words ≡ strip_items cs =
              rw (whole.1, (strip_by_ran cs (omega (arith, few_cells))).1 (cc counts)) in
              let long : length pass.words ≡ n = cc (length-map pass.words candidate, number_of_items) in
              let fits : length (strip_items cs) ≤ length old = rw (← number_of_items) h in
              rw (by_room, le-ltb (length old) n h) (
                refl,
                rw (e, mapped_at_front candidate pass.words old n long h, gathered)
                    (stored_at_front_fills (strip_items cs) old fits),
              )

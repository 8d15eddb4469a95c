-- The pass over a field, each interval taken as a cell: bytes are wanted as long as bits are, so that it reads the
-- field's cells; by induction on the cells. Rests on no axiom.
use Prim.Native.Nat.{ℕ, zero, suc, ◌+◌, ◌-◌, ◌≤◌, ◌<◌}
use mathlib.Core.Path.{◌≡◌, refl, ap, ◌∙◌}
use mathlib.Core.Bool.{Bool, true, false}
use mathlib.Core.List.{List, [], ◌∷◌, ◌++◌, map}
use native.Mathlib.Omega.{arith}
use borrow.Author.Tests.{ltb-true, ltb-false}
use lib.Dec.{ltb}
use lib.ListN.{length, length-append}
use Rattle.symbols.specs.Bits.{Bit, O, last_of}
use Rattle.symbols.specs.Reading.{units, given, last_after, read_from, read_bits}
use Rattle.symbols.specs.machine.Step.{fresh_reading, stepped, word_closed, ran, ran_words}
use Rattle.symbols.specs.declared.Cell.{Cell}
use Rattle.symbols.specs.declared.Reading.{Reading}
use Rattle.symbols.proofs.CellLaws.{bits_grown, last_append, last_of_more}
use Rattle.symbols.proofs.UnitLaws.{cells_at_most_bits}
use Rattle.symbols.proofs.ReadsLaws.{Reads, reads_fresh}
use Rattle.symbols.proofs.StepLaws.{reads_step}
use Rattle.symbols.proofs.AnswerLaws.{reads_enough, reads_too_few}
use Rattle.shifts.specs.machine.Pass.{Passed, pass_from, passed}
use Rattle.intervals.proofs.CellLaws.{cell_is_read}
use Rattle.fields.specs.Field.{wanted_after, bits_wanted, cells_taken, field_cells}
use Rattle.fields.proofs.TakenLaws.{taken_one_more}
use Rattle.fields.proofs.EnoughLaws.{classes_of_cells, wanting}

-- the machine was run over cells from a place on
pub record Ran (k : ℕ) (m : Reading) (xs : List Cell) (pass : Passed) : Type 0 where
  pub reading : pass.end.reading ≡ ran m k xs
  pub used : pass.end.used ≡ k + length xs
  pub words : pass.words ≡ ran_words m k xs

-- the last bit known after some cells
abbrev last_known : List Cell → Bit
last_known done = last_of O (read_bits done)

last_grown : (done : List Cell) (x : Cell) → last_known (done ++ (x ∷ [])) ≡ last_after (last_known done) x
last_grown done x =
    ap (last_of O) (bits_grown done x)
    ∙ last_append O (read_bits done) (given (last_known done) x)
    ∙ last_of_more (last_known done) (last_known done) x

module _ (n : ℕ) (some : 0 < n) where
  pub still_wanted
      : {m : Reading} {done : List Cell}
      → Reads m done
      → (t : Bool) (want : ℕ)
      → ltb m.words n ≡ t
      → want ≡ bits_wanted n - length (read_bits done)
      → t ≡ wanting want
  still_wanted r true zero q e = absurd (omega (arith, reads_too_few _ _ r n (ltb-true _ _ q)))
  still_wanted r true (suc want) q e = refl
  still_wanted r false zero q e = refl
  still_wanted r false (suc want) q e = absurd (omega (arith, reads_enough _ _ r n some (ltb-false _ _ q)))

  module _ (few : n ≤ 1030) where
    -- from where the cells `done` were read
    pass_takes
        : (left done : List Cell) (m : Reading) (want : ℕ)
        → Reads m done
        → want ≡ bits_wanted n - length (read_bits done)
        → Ran (length done) m (cells_taken (classes_of_cells left) want (last_known done))
        (pass_from n (length done) m (map units left))
    unfolding cells_taken pass_from ran ran_words stepped word_closed read_bits
    pass_takes [] done m want r e = record { reading = refl; used = omega arith; words = refl }
    pass_takes (x ∷ left) done m zero r e =
        rw (still_wanted r _ zero refl e) (record { reading = refl; used = omega arith; words = refl })
    pass_takes (x ∷ left) done m (suc want) r e =
        let b : Bit = last_known done in
        let long : length (done ++ (x ∷ [])) ≡ suc (length done) = omega (arith, length-append done (x ∷ [])) in
        let bits = ap length (bits_grown done x) ∙ length-append (read_bits done) (given b x) in
        let room = cells_at_most_bits O done in
        let rest =
        rw (long, last_grown done x) at (pass_takes left (done ++ (x ∷ [])) (stepped m x (length done))
        (wanted_after (suc want) b x) (reads_step m done r (omega arith) x) (omega arith)) in
        rw (still_wanted r _ (suc want) refl e, taken_one_more (cell_is_read x) (classes_of_cells left) want b) (record {
          reading = rest.reading;
          used = omega (arith, rest.used);
          words = ap (λ (l : List ℕ). word_closed m x ++ l) rest.words;
        })

    -- a whole field
    pub pass_over_field
        : (xs : List Cell) → Ran 0 fresh_reading (field_cells (classes_of_cells xs) n) (passed n (map units xs))
    unfolding passed field_cells read_bits read_from last_of
    pass_over_field xs = pass_takes xs [] fresh_reading (bits_wanted n) reads_fresh (omega arith)

-- The writer's answers by its tests: where profile and list are accepted, the stream of the written bytes and the
-- room decide. Rests on no axiom.
use Prim.Native.Nat.{ℕ, ◌+◌, ◌≤◌, ◌<◌}
use mathlib.Core.Path.{◌≡◌, refl, ap, ◌∙◌}
use mathlib.Core.Bool.{Bool, true, false}
use mathlib.Core.List.{List}
use native.Mathlib.Omega.{arith}
use lib.Dec.{leb}
use lib.ListN.{length}
use borrow.Author.Tests.{lt-ltb, le-ltb, leb-true, leb-false}
use Rattle.lists.specs.Filled.{stored_at}
use Rattle.lists.proofs.StoreLaws.{stored_at_front_fills}
use Rattle.refusal.specs.Answer.{accepted, refused}
use Rattle.refusal.proofs.AnswerLaws.{first_refusal_passes}
use Rattle.timing.specs.Profile.{profile_rule}
use Rattle.timing.specs.declared.Profile.{Profile}
use Rattle.items.specs.Written.{written}
use Rattle.items.specs.Rule.{list_rule}
use Rattle.items.proofs.RuleLaws.{listed}
use Rattle.items.proofs.WrittenLaws.{written_are_bytes}
use Rattle.symbols.specs.Cells.{written_cells}
use Rattle.lengths.specs.Stream.{byte_stream, stream_of}
use Rattle.lengths.proofs.StreamLaws.{stream_is_as_long_as_its_cells}
use Rattle.codec.specs.Writer.{stream_rule, write_rule, write_output}
use Rattle.codec.specs.machine.Windows.{window_table}
use Rattle.codec.specs.machine.Pen.{Drawing, drawing, Writing, writing, fresh_pen, wrote, closed}
use Rattle.codec.proofs.PenLaws.{closing_moves_on, bytes_length}
use Rattle.codec.proofs.StreamLaws.{stream_is_closed}

-- the room decides
module _ (p : Profile) (items old : List ℕ) where
  abbrev stream : List ℕ
  stream = byte_stream p (written items)

  abbrev roomy : Bool
  roomy = leb (length (written_cells (written items))) (length old)

  pub stream_fits : roomy ≡ true → length stream ≤ length old
  stream_fits e = leb-true (length stream) (length old) (rw stream_is_as_long_as_its_cells e)

  module _ (accepts : (profile_rule p).number ≡ 0) (listed : (list_rule items).number ≡ 0) where
    pub too_short
        : roomy ≡ false → (refused 9 0 ≡ write_rule p items (length old)) × (old ≡ write_output p items old)
    unfolding write_rule write_output stream_rule
    too_short e =
        let h = leb-false (length stream) (length old) (rw stream_is_as_long_as_its_cells e) in
        rw (first_refusal_passes, first_refusal_passes, lt-ltb) (refl, refl)

    pub long_enough
        : roomy ≡ true
        → (count : ℕ) (stored : List ℕ)
        → count ≡ length stream
        → stored ≡ stored_at old 0 stream
        → (accepted count ≡ write_rule p items (length old)) × (stored ≡ write_output p items old)
    unfolding write_rule write_output stream_rule stream_of
    long_enough e count stored counted stores =
        let h = stream_fits e in
        rw (first_refusal_passes, first_refusal_passes, le-ltb) (cc, stores ∙ stored_at_front_fills stream old h)

-- ---- the stream, as the code has it: the table, and the state after the bytes, by equations

module _ (p : Profile) (items old table : List ℕ) (tables : table ≡ window_table p)
    (accepts : (list_rule items).number ≡ 0) (room : length (byte_stream p (written items)) ≤ length old) where
  abbrev all : Writing
  all = wrote table (writing fresh_pen old) (written items)

  ends_in_stream
      : closed table all ≡ drawing (length (byte_stream p (written items))) (stored_at old 0 (byte_stream p (written items)))
  ends_in_stream =
      stream_is_closed p table tables old (written items) (written_are_bytes items (listed items accepts).none_foreign)

  cells_counted : (closed table all).cells ≡ length (byte_stream p (written items))
  cells_counted = ap (λ (d : Drawing). d.cells) ends_in_stream

  pub items_fit : all.pen.cells < length old
  items_fit = omega (arith, closing_moves_on table all, cells_counted)

  pub closing_fits : (s : Writing) → s ≡ all → (closed table s).cells < length s.out + 1
  closing_fits s e =
      rw e (omega (arith, cells_counted, bytes_length table (writing fresh_pen old) (written items)))

  pub stream_is_written
      : (s : Writing) (n : ℕ) (out : List ℕ)
      → s ≡ all
      → drawing n out ≡ closed table s
      → (n ≡ length (byte_stream p (written items))) × (out ≡ stored_at old 0 (byte_stream p (written items)))
  stream_is_written s n out e closes =
      let same = closes ∙ ap (closed table) e ∙ ends_in_stream in
      (ap (λ (d : Drawing). d.cells) same, ap (λ (d : Drawing). d.out) same)

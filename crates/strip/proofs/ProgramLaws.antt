-- The program's answer as the functions below it give it: refusals decide in their order, and a list of at most 512
-- written bytes has at most 4,098 cells, so that the writer's output is never too short. Rests on no axiom.
use Prim.Native.Nat.{ℕ, ◌≤◌, ◌<◌}
use mathlib.Core.Path.{◌≡◌, refl, sym, ◌∙◌, ap}
use mathlib.Core.Bool.{Bool, true, false, cond}
use mathlib.Core.List.{List}
use native.Mathlib.Omega.{arith}
use lib.Dec.{eqb, ltb}
use lib.ListN.{length, take, length-take}
use lib.Seq.{take_all}
use borrow.Author.Tests.{lt-ltb, le-ltb, ltb-true, ltb-false}
use Rattle.lists.proofs.StoreLaws.{front_of_filled}
use Rattle.refusal.specs.Answer.{Answer, accepted, refused, first_refusal}
use Rattle.refusal.proofs.AnswerLaws.{first_refusal_accepts}
use Rattle.timing.specs.Profile.{profile_rule}
use Rattle.timing.specs.declared.Profile.{Profile}
use Rattle.items.specs.Item.{written_bytes}
use Rattle.items.specs.Written.{written}
use Rattle.items.specs.Rule.{list_rule}
use Rattle.items.proofs.ItemLaws.{written_bytes_bounds}
use Rattle.items.proofs.WrittenLaws.{length_of_written}
use Rattle.symbols.proofs.UnitLaws.{cells_at_most}
use Rattle.lengths.specs.Stream.{byte_stream, stream_of}
use Rattle.lengths.proofs.StreamLaws.{stream_is_as_long_as_its_cells}
use Rattle.codec.specs.Writer.{stream_rule, write_rule, write_output}
use Rattle.strip.specs.Output.{refusal_text}
use Rattle.strip.specs.Program.{script_rule, script_text}

-- 512 written bytes have at most 4,098 cells
module _ (p : Profile) (items : List ℕ) (h : written_bytes items ≤ 512) where
  stream_fits : length (stream_of p items) ≤ 4098
  unfolding stream_of
  stream_fits =
      omega
      (arith, stream_is_as_long_as_its_cells p (written items), cells_at_most (written items), length_of_written items)

  -- so the writer answers as the program does
  pub writer_answers : write_rule p items 4098 ≡ script_rule p items
  unfolding write_rule stream_rule script_rule stream_of
  writer_answers =
      rw (le-ltb 512 (written_bytes items) h, le-ltb 4098 (length (byte_stream p (written items))) stream_fits)

  module _ (n : ℕ) (e : accepted n ≡ script_rule p items) where
    script_count : n ≡ length (stream_of p items)
    unfolding script_rule
    script_count =
        let short = le-ltb 512 (written_bytes items) h in
        let (fair, rest) = first_refusal_accepts (profile_rule p) _ (sym (ap (λ (a : Answer). a.number) e)) in
        let listed = (first_refusal_accepts (list_rule items) _ (rw short at rest)).0 in
        ap (λ (a : Answer). a.count) (rw (fair, short, listed) at e)

    -- and its output begins with the stream
    pub stream_written
        : (old : List ℕ)
        → length old ≡ 4098
        → (n ≤ 4098) × (take n (write_output p items old) ≡ stream_of p items)
    unfolding write_output
    stream_written old size =
        let answer : (write_rule p items (length old)).number ≡ 0 =
        rw (size, writer_answers) (sym (ap (λ (a : Answer). a.number) e)) in (
          omega (arith, script_count, stream_fits),
          rw (answer, script_count) (front_of_filled (stream_of p items) old),
        )

-- a list that is longer than 512 is refused whatever stands beyond its first 513 items
long_script_text : (p : Profile) (items : List ℕ)
    → 512 < written_bytes items
    → script_text p items ≡ refusal_text (first_refusal (profile_rule p) (refused 4 0))
unfolding script_text script_rule
long_script_text p items h = rw (lt-ltb 512 (written_bytes items) h, never_accepted (eqb (profile_rule p).number 0) refl)
  where
    never_accepted : (t : Bool)
        → eqb (profile_rule p).number 0 ≡ t
        → eqb (cond t (refused 4 0) (profile_rule p)).number 0 ≡ false
    never_accepted true e = refl
    never_accepted false e = e

pub first_items_decide : (p : Profile) (items : List ℕ) → script_text p (take 513 items) ≡ script_text p items
first_items_decide p items =
    elim (ltb 513 (length items)) as (λ t.
    ltb 513 (length items) ≡ t → script_text p (take 513 items) ≡ script_text p items) [
      | true ↦ λ e.
          let long = ltb-true 513 (length items) e in
          long_script_text p (take 513 items)
          (omega (arith, length-take 513 items, (written_bytes_bounds (take 513 items)).0))
          ∙ sym (long_script_text p items (omega (arith, (written_bytes_bounds items).0)))
      | false ↦ λ e. ap (script_text p) (take_all 513 items (ltb-false 513 (length items) e))
    ] refl

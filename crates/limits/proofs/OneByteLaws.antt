-- The stream of a one-byte list has room in ten places: a byte ends eight cells at most and the closing 0s two. So the
-- writer accepts it, and the front of its output is the stream. Rests on no axiom.
use Rattle.std.specs.Prelude.{Result, Ok, Err}
use Prim.Native.Nat.{ℕ, ◌≤◌, ◌<◌}
use mathlib.Core.Path.{◌≡◌, sym, ap, ◌∙◌}
use mathlib.Core.Bool.{true≢false}
use mathlib.Core.List.{List, [], ◌∷◌}
use native.Mathlib.Omega.{arith}
use lib.Dec.{eqb}
use lib.ListN.{length, take}
use borrow.Author.Tests.{le-ltb}
use Rattle.lists.proofs.StoreLaws.{front_of_filled}
use Rattle.refusal.specs.Answer.{Answer, accepted, counted_answer}
use Rattle.refusal.specs.declared.Refusal.{Refusal}
use Rattle.refusal.proofs.AnswerLaws.{number_is_not_zero, first_refusal_passes, acceptance_fills_the_buffer}
use Rattle.timing.specs.Profile.{profile_rule}
use Rattle.timing.specs.declared.Profile.{Profile}
use Rattle.items.specs.Written.{written}
use Rattle.symbols.proofs.UnitLaws.{cells_at_most}
use Rattle.lengths.specs.Stream.{byte_stream, stream_of}
use Rattle.lengths.proofs.StreamLaws.{stream_is_as_long_as_its_cells}
use Rattle.lengths.proofs.PapersMargin.{one_byte_is_accepted, written_one}
use Rattle.codec.specs.Writer.{stream_rule, write_rule, write_output}

module _ (p : Profile) (b : ℕ) (ok : (profile_rule p).number ≡ 0) (h : b < 256) where
  pub one_byte_has_room : length (stream_of p (b ∷ [])) ≤ 10
  unfolding stream_of
  one_byte_has_room =
      let one = ap length (written_one b h) in
      omega (arith, stream_is_as_long_as_its_cells p (written (b ∷ [])), cells_at_most (written (b ∷ [])), one)

  pub one_byte_is_written : write_rule p (b ∷ []) 10 ≡ accepted (length (stream_of p (b ∷ [])))
  unfolding write_rule stream_rule stream_of
  one_byte_is_written =
      let listed = one_byte_is_accepted b h in
      let room = le-ltb 10 (length (byte_stream p (written (b ∷ [])))) one_byte_has_room in
      rw (first_refusal_passes, first_refusal_passes, room)

  module _ (r : Result ℕ Refusal) (e : counted_answer r ≡ write_rule p (b ∷ []) 10) where
    pub one_byte_is_not_refused : (refusal : Refusal) → r ≡ Err refusal → ⊥
    one_byte_is_not_refused refusal q =
        let zero = ap (λ (a : Answer). eqb a.number 0) (sym (ap counted_answer q) ∙ e ∙ one_byte_is_written) in
        true≢false (sym zero ∙ number_is_not_zero refusal)

    pub one_byte_fills_front
        : (n : ℕ)
        → r ≡ Ok n
        → (old : List ℕ)
        → length old ≡ 10
        → (n ≤ 10) × (take n (write_output p (b ∷ []) old) ≡ stream_of p (b ∷ []))
    unfolding write_output
    one_byte_fills_front n q old size =
        let count : n ≡ length (stream_of p (b ∷ [])) =
        ap (λ (a : Answer). a.count) (sym (ap counted_answer q) ∙ e ∙ one_byte_is_written) in
        let answer : (write_rule p (b ∷ []) (length old)).number ≡ 0 = rw (size, one_byte_is_written) in (
          omega (arith, count, one_byte_has_room),
          rw (acceptance_fills_the_buffer (write_rule p (b ∷ []) (length old)) (stream_of p (b ∷ [])) old answer, count)
              (front_of_filled (stream_of p (b ∷ [])) old),
        )

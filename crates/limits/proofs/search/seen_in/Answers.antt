-- Why `search::seen_in` answers `seen_in`: the writer takes a one-byte list, and the front of its output is the stream.
-- Rests on no axiom.
use Rattle.std.specs.Prelude.{Result, Ok, Err}
use Rattle.refusal.specs.declared.Refusal.{Refusal}
use Prim.Native.Nat.{ℕ, ◌≤◌, ◌<◌}
use mathlib.Core.Path.{◌≡◌, refl, sym, ap, ◌∙◌}
use mathlib.Core.Bool.{true}
use mathlib.Core.List.{List, [], ◌∷◌}
use native.Mathlib.Omega.{arith}
use lib.ListN.{length, take}
use lib.Seq.{length-take-le}
use Rattle.refusal.specs.Answer.{counted_answer}
use Rattle.timing.specs.Profile.{profile_rule}
use Rattle.timing.specs.declared.Profile.{Profile}
use Rattle.lengths.specs.Stream.{stream_of}
use Rattle.codec.specs.Writer.{write_rule, write_output}
use Rattle.limits.specs.machine.Search.{seen_from}
use Rattle.limits.proofs.OneByteLaws.{one_byte_is_not_refused, one_byte_fills_front}
use Rattle.limits.proofs.search.seen_in.Goals as goal

-- few cells are written, and they are the stream
the_stream
    : (p : Profile) (item : ℕ)
    → (profile_rule p).number ≡ 0
    → item < 256
    → (r : Result ℕ Refusal)
    → counted_answer r ≡ write_rule p (item ∷ []) 10
    → (n : ℕ)
    → r ≡ Ok n
    → (old out : List ℕ)
    → out ≡ write_output p (item ∷ []) old
    → length old ≡ 10
    → (n ≤ 10) × (take n out ≡ stream_of p (item ∷ []))
the_stream p item ok small r answer n is old out same size =
    rw same (one_byte_fills_front p item ok small r answer n is old size)

pub slice_bounds-out-end : goal.slice_bounds-out-end
slice_bounds-out-end c =
    let (few, same) = the_stream _ _ c.requires.p_value c.requires.item_bound _ c.write.ensures.answer _ c.in-Ok.is _ _
    c.write.ensures.output refl in
    omega (arith, few)

pub slice_bounds-first_seen-end : goal.slice_bounds-first_seen-end
slice_bounds-first_seen-end c =
    let (few, same) = the_stream _ _ c.requires.p_value c.requires.item_bound _ c.write.ensures.answer _ c.in-Ok.is _ _
    c.write.ensures.output refl in
    sym (length-take-le c.in-Ok.count _ (omega (arith, few)))

pub first_seen-requires : goal.first_seen-requires
first_seen-requires c =
    let (few, same) = the_stream _ _ c.requires.p_value c.requires.item_bound _ c.write.ensures.answer _ c.in-Ok.is _ _
    c.write.ensures.output refl in
    omega (
      arith,
      few,
      length-take-le c.in-Ok.count c.write.new.out
          (omega (arith, few)),
    )

pub returns-in-Err : goal.returns-in-Err
returns-in-Err c =
    let written = c.write in
    absurd (one_byte_is_not_refused c.args.p c.args.item c.requires.p_value c.requires.item_bound
    written.result written.ensures.answer _ c.in-Err.is)

pub returns-in-Ok : goal.returns-in-Ok
returns-in-Ok c =
    let args = c.args in
    let (few, same) = the_stream _ _ c.requires.p_value c.requires.item_bound _ c.write.ensures.answer _ c.in-Ok.is _ _
    c.write.ensures.output refl in
    c.first_seen.ensures ∙ ap (λ (ds : List ℕ). seen_from args.p args.s args.n args.item true 0 ds) same

-- Why `strip::print_list` prints the script's text: the writer answers as the program does, and its output begins
-- with the stream. Rests on no axiom.
use Rattle.std.specs.Prelude.{Result, Ok, Err}
use Rattle.refusal.specs.declared.Refusal.{Refusal}
use Prim.Native.Nat.{ℕ, ◌≤◌}
use mathlib.Core.Path.{◌≡◌, refl, sym, ◌∙◌, ap}
use mathlib.Core.List.{List}
use native.Mathlib.Omega.{arith}
use lib.ListN.{length, take, length-take}
use lib.Seq.{length-take-le}
use Rattle.refusal.specs.Answer.{accepted, counted_answer}
use Rattle.refusal.proofs.AnswerLaws.{number_is_not_zero}
use Rattle.timing.specs.declared.Profile.{Profile}
use Rattle.items.specs.Item.{written_bytes}
use Rattle.lengths.specs.Stream.{stream_of}
use Rattle.codec.specs.Writer.{write_rule, write_output}
use Rattle.strip.specs.Program.{script_rule, script_text}
use Rattle.strip.proofs.ProgramLaws.{writer_answers, stream_written}
use Rattle.strip.proofs.print_list.Goals as goal

-- where the writer accepts, few cells are written, and they are the stream
the_stream
    : (p : Profile) (items old new : List ℕ) (r : Result ℕ Refusal) (n : ℕ)
    → written_bytes items ≤ 512
    → new ≡ write_output p items old
    → counted_answer r ≡ write_rule p items 4098
    → r ≡ Ok n
    → length old ≡ 4098
    → (accepted n ≡ script_rule p items) × (n ≤ 4098) × (take n new ≡ stream_of p items)
the_stream p items old new r n h written answer is size =
    let count : accepted n ≡ script_rule p items = sym (ap counted_answer is) ∙ answer ∙ writer_answers p items h in
    let stream = stream_written p items h n count old size in (count, stream.0, rw written stream.1)

pub slice_bounds-stream-end : goal.slice_bounds-stream-end
slice_bounds-stream-end c =
    let w = c.write.ensures in
    omega (arith, (the_stream _ _ _ _ _ _ c.requires.bound.0 w.output w.answer c.in-Ok.is refl).1)

pub slice_bounds-report-end : goal.slice_bounds-report-end
slice_bounds-report-end c =
    let w = c.write.ensures in
    let few = (the_stream _ _ _ _ _ _ c.requires.bound.0 w.output w.answer c.in-Ok.is refl).1 in
    sym (length-take-le c.in-Ok.cells _ (omega (arith, few)))

pub report-requires : goal.report-requires
report-requires c =
    let w = c.write.ensures in
    let few = (the_stream _ _ _ _ _ _ c.requires.bound.0 w.output w.answer c.in-Ok.is refl).1 in
    (omega (arith, length-take c.in-Ok.cells c.write.new.out, few), c.requires.bound.1)

pub returns-in-Err : goal.returns-in-Err
unfolding script_text
returns-in-Err c =
    let a = c.args in
    let answer : counted_answer c.write.result ≡ script_rule a.profile a.items.now =
    c.write.ensures.answer ∙ writer_answers a.profile a.items.now c.requires.bound.0 in
    rw (← answer, c.in-Err.is, number_is_not_zero c.in-Err.refusal) c.refuse.ensures

pub returns-in-Ok : goal.returns-in-Ok
unfolding script_text
returns-in-Ok c =
    let w = c.write.ensures in
    let stream = the_stream _ _ _ _ _ _ c.requires.bound.0 w.output w.answer c.in-Ok.is refl in
    rw (← stream.0, ← stream.2, ← c.requires.profile_value.1) c.report.ensures

-- Why `codec::reader::read_cells` answers `read_rule`: the pass that looks decides every refusal and the count, the
-- other stores the code words of the same items. Rests on no axiom.
use mathlib.Core.Path.{sym, ap, ◌∙◌}
use native.Mathlib.Omega.{arith}
use Rattle.refusal.specs.Answer.{counted_answer}
use Rattle.refusal.proofs.AnswerLaws.{handed_on}
use Rattle.codec.proofs.ReaderLaws.{used_is_small, strip_is, strip_refuses, room_refuses, room_accepts}
use Rattle.codec.proofs.reader.read_cells.Goals as goal

pub last_place-requires : goal.last_place-requires
last_place-requires c =
    let known = c.requires in
    let few = used_is_small _ _ c.args.out.now known.p_value known.intervals_len_bound known.intervals_value _
    c.look_over-pass.ensures in
    omega (arith, few)

pub returns-then-out-n : goal.returns-then-out-n
returns-then-out-n c =
    let known = c.requires in
    let told = strip_is _ _ c.args.out.now known.p_value known.intervals_len_bound known.intervals_value _
    c.look_over-pass.ensures _ _ c.conclude.ensures c.last_place.ensures in
    let both = room_refuses _ _ _ known.p_value known.intervals_len_bound known.intervals_value _
    (sym (ap counted_answer c.in_ok-n.was) ∙ told) c.if-out-n.true in
    record { answer = both.0; output = both.1 }

pub returns-in_err-n : goal.returns-in_err-n
returns-in_err-n c =
    let known = c.requires in
    let told = strip_is _ _ c.args.out.now known.p_value known.intervals_len_bound known.intervals_value _
    c.look_over-pass.ensures _ _ c.conclude.ensures c.last_place.ensures in
    let both = strip_refuses _ _ _ known.p_value known.intervals_len_bound known.intervals_value c.in_err-n.field-0.0
    (sym (ap counted_answer c.in_err-n.was) ∙ told) in
    record { answer = handed_on _ _ c.from_residual.ensures.1 ∙ both.0; output = both.1 }

pub returns : goal.returns
returns c =
    let known = c.requires in
    let told = strip_is _ _ c.args.out.now known.p_value known.intervals_len_bound known.intervals_value _
    c.look_over-pass.ensures _ _ c.conclude.ensures c.last_place.ensures in
    let both = room_accepts _ _ _ known.p_value known.intervals_len_bound known.intervals_value _
    (sym (ap counted_answer c.in_ok-n.was) ∙ told) c.if-out-n.false _ c.pass_over.ensures.output in
    record { answer = both.0; output = rw c.words_to_bytes.ensures both.1 }

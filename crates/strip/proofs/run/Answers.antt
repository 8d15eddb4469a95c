-- Why `strip::run` prints the program's text: what the input is garbled with comes first, and a list longer than its
-- first 513 items is refused for them alone. Rests on no axiom.
use mathlib.Core.Path.{◌≡◌, sym, ◌∙◌, ap}
use lib.ListN.{take}
use lib.Seq.{length-take-le}
use Rattle.refusal.proofs.AnswerLaws.{accepted_later, number_is_not_zero, refused_earlier}
use Rattle.script.specs.Input.{items_in, profile_in, input_rule}
use Rattle.script.specs.machine.Read.{script_answer}
use Rattle.script.proofs.ScriptLaws.{items_fit, items_stand_in_front}
use Rattle.strip.specs.Program.{program_rule, program_text, script_text}
use Rattle.strip.proofs.OutputLaws.{printed_is_front}
use Rattle.strip.proofs.ProgramLaws.{first_items_decide}
use Rattle.strip.proofs.run.Goals as goal

pub slice_bounds-items-end : goal.slice_bounds-items-end
slice_bounds-items-end c = items_fit _ _ _ _ _ c.read.ensures c.in-Ok.is

pub slice_bounds-print_script-end : goal.slice_bounds-print_script-end
slice_bounds-print_script-end c = sym (length-take-le c.in-Ok.script.count _ (items_fit _ _ _ _ _ c.read.ensures c.in-Ok.is))

pub returns-in-Err : goal.returns-in-Err
unfolding program_text program_rule
returns-in-Err c =
    let r = c.in-Err.refusal in
    let text = c.args.input.now in
    let rule = sym (ap script_answer c.in-Err.is) ∙ c.read.ensures.answer in
    record {
      text = rw (← refused_earlier r (input_rule text) _ rule, number_is_not_zero r, number_is_not_zero r) c.refuse.ensures;
      front = printed_is_front _ _ _ _ c.refuse.ensures;
    }

pub returns-in-Ok : goal.returns-in-Ok
unfolding program_text program_rule script_text
returns-in-Ok c =
    let text = c.args.input.now in
    let rule = sym (ap script_answer c.in-Ok.is) ∙ c.read.ensures.answer in
    let own = c.read.ensures.profile _ c.in-Ok.is in
    let front : take c.in-Ok.script.count c.read.new.buffer ≡ take 513 (items_in text) =
    items_stand_in_front _ _ _ _ _ c.read.ensures c.in-Ok.is in
    record {
      text = rw (
        (accepted_later (input_rule text) _ _ rule).0,
        ← first_items_decide (profile_in text) (items_in text),
        ← own,
        ← front,
      ) c.print_script.ensures;
      front = printed_is_front _ _ _ _ c.print_script.ensures;
    }

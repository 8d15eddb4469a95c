-- Document 01, "The strip program": from the input's bytes to the output's. No lemmas here.
use Rattle.std.specs.Prelude.{ℕ, cond, List, eqb, ltb, length}
use Rattle.refusal.specs.Answer.{Answer, accepted, refuse_if, first_refusal}
use Rattle.timing.specs.Profile.{profile_rule}
use Rattle.timing.specs.declared.Profile.{Profile}
use Rattle.items.specs.Item.{written_bytes}
use Rattle.items.specs.Rule.{list_rule}
use Rattle.lengths.specs.Stream.{stream_of}
use Rattle.lengths.specs.Margin.{margin_of}
use Rattle.script.specs.Input.{input_rule, profile_in, items_in}
use Rattle.strip.specs.Output.{refusal_text, report_text}

-- the writer's order, 1, 2, 4, 3: above 512 written bytes it answers 4. The count is the number of cells
unfoldable pub script_rule : Profile → List ℕ → Answer
script_rule p items =
    first_refusal (profile_rule p)
    (refuse_if (ltb 512 (written_bytes items)) 4 0
    (first_refusal (list_rule items)
    (accepted (length (stream_of p items)))))

-- what is printed for a profile and a list
unfoldable pub script_text : Profile → List ℕ → List ℕ
script_text p items =
    cond (eqb (script_rule p items).number 0)
    (report_text p (margin_of p) (stream_of p items))
    (refusal_text (script_rule p items))

-- 14 comes before all else
unfoldable pub program_rule : List ℕ → Answer
program_rule text = first_refusal (input_rule text) (script_rule (profile_in text) (items_in text))

-- what the program prints for its input
unfoldable pub program_text : List ℕ → List ℕ
program_text text =
    cond (eqb (program_rule text).number 0)
    (report_text (profile_in text) (margin_of (profile_in text)) (stream_of (profile_in text) (items_in text)))
    (refusal_text (program_rule text))

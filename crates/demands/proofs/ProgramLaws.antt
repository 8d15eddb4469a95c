-- Why the strip program answers in its order: its lines are tested one after the other; and a list of at most 512 written
-- bytes has as few items, so that only 3 is left of the writer's tests. Rests on no axiom.
use Prim.Native.Nat.{ℕ, suc, ◌+◌, ◌≤◌}
use mathlib.Core.Path.{◌≡◌, refl, sym, ap, ◌∙◌}
use mathlib.Core.Bool.{Bool, true, false, not}
use mathlib.Core.List.{List, [], ◌∷◌}
use native.Mathlib.Nat.{add-zero}
use native.Mathlib.Omega.{arith}
use lib.Dec.{ltb}
use lib.ListN.{length}
use borrow.Author.Tests.{le-ltb, ne_eqb}
use Rattle.lists.specs.Place.{anywhere, lowest, passed}
use Rattle.refusal.specs.Answer.{Answer, accepted, refused, refuse_if, first_refusal}
use Rattle.items.specs.Item.{written_bytes}
use Rattle.items.specs.Rule.{list_rule}
use Rattle.items.proofs.ItemLaws.{written_bytes_bounds}
use Rattle.script.specs.Line.{is_profile_line, is_item_line}
use Rattle.script.specs.Input.{garbled_from, garbled_lines, input_rule, profile_in, items_in}
use Rattle.strip.specs.Output.{refusal_text}
use Rattle.strip.specs.Program.{script_rule, program_rule, program_text}
use Rattle.demands.specs.Order.{turn, accept, Answers}
use Rattle.demands.specs.Causes.{Foreign}
use Rattle.demands.specs.ProgramCauses.{faulty_after, faulty_lines, lines_of, program_order}
use Rattle.demands.proofs.OrderLaws.{answers_accepted, turn_before, turn_if_above, means_at, means_below}
use Rattle.demands.proofs.OrderLaws.{profile_first}

-- ---- 14

-- what some tests answer, the first having place n
abbrev by_tests : List Bool → ℕ → Answer
by_tests tests n = refuse_if (anywhere passed tests) 14 (n + lowest passed tests) (accepted 0)

one_more
    : (t : Bool) (n : ℕ) (tests : List Bool) (later : Answer)
    → later ≡ by_tests tests (suc n)
    → refuse_if t 14 n later ≡ by_tests (t ∷ tests) n
unfolding anywhere lowest
one_more true n tests later e = ap (refused 14) (sym (add-zero n))
one_more false n tests later e =
    e ∙ ap (λ (place : ℕ). refuse_if (anywhere passed tests) 14 place (accepted 0)) (omega arith)

garbled_after : (n : ℕ) (lines : List (List ℕ)) → garbled_from n lines ≡ by_tests (faulty_after lines) n
unfolding garbled_from faulty_after anywhere
garbled_after n [] = refl
garbled_after n (rest ∷ []) = one_more (ltb 0 (length rest)) n [] (accepted 0) refl
garbled_after n (line ∷ next ∷ lines) =
    one_more (not (is_item_line line)) n (faulty_after (next ∷ lines)) _ (garbled_after (suc n) (next ∷ lines))

garbled_lines_lem
    : (lines : List (List ℕ))
    → garbled_lines lines
    ≡ refuse_if (anywhere passed (faulty_lines lines)) 14 (suc (lowest passed (faulty_lines lines))) (accepted 0)
unfolding garbled_lines faulty_lines anywhere lowest
garbled_lines_lem [] = refl
garbled_lines_lem (rest ∷ []) = refl
garbled_lines_lem (line ∷ next ∷ lines) =
    let tests : List Bool = not (is_profile_line line) ∷ faulty_after (next ∷ lines) in
    one_more (not (is_profile_line line)) 1 (faulty_after (next ∷ lines)) _ (garbled_after 2 (next ∷ lines))
    ∙ ap (λ (place : ℕ). refuse_if (anywhere passed tests) 14 place (accepted 0)) (omega arith)

-- ---- the writer's order

short_list_in_turn
    : (items : List ℕ) (k : ℕ)
    → written_bytes items ≤ 512
    → Answers (turn 3 (Foreign items) accept) (first_refusal (list_rule items) (accepted k))
unfolding list_rule
short_list_in_turn items k few =
    let items_are_fewer = (written_bytes_bounds items).0 in
    rw (le-ltb 6400 (length items) (omega arith), le-ltb 6400 (written_bytes items) (omega arith))
    (turn_before 2 (accepted 0) (accepted k) (means_at _ _) answers_accepted)

pub program_in_turn : (text : List ℕ) → Answers (program_order text) (program_rule text)
unfolding program_rule input_rule script_rule
program_in_turn text =
    turn_before 13 (garbled_lines (lines_of text)) _ (means_below 16384 (length text))
    (rw (garbled_lines_lem (lines_of text))
    (turn_before 13 (accepted 0) _ (means_at _ _)
    (profile_first (profile_in text) _
    (turn_if_above 512 (written_bytes (items_in text)) (short_list_in_turn (items_in text) _)))))

pub program_refuses
    : (text : List ℕ) → ((program_rule text).number ≡ 0 → ⊥) → program_text text ≡ refusal_text (program_rule text)
unfolding program_text
program_refuses text refuses = rw (ne_eqb _ 0 refuses)

-- Why `merge::merge_sets` answers `merge_answer` and leaves `merge_output`: the tests of each set, then those of both
-- together, are the rule's tests in its order. Rests on no axiom.
use mathlib.Core.Path.{◌∙◌}
use Rattle.merge.proofs.SettleLaws.{refusal_stores_nothing, refusal_settles, acceptance_leaves, merge_settles}
use Rattle.merge.proofs.merge_sets.Goals as goal

pub returns-in_err-check_sets : goal.returns-in_err-check_sets
returns-in_err-check_sets c =
    let refusal = c.in_err-check_sets.field-0.0 in
    let both = merge_settles _ _ _ _ _ (refusal_settles _ _ refusal _ _ _ c.in_err-check_sets.ensures) in
    record { answer = refusal_stores_nothing _ refusal c.from_residual.ensures.1 ∙ both.0; output = both.1 }

pub returns : goal.returns
returns c =
    let passed = c.in_ok-check_sets.ensures in
    let both = merge_settles _ _ _ _ _ (acceptance_leaves _ _ 0 _ _ _ _ _ passed c.merge_checked.ensures) in
    record { answer = both.0; output = both.1 }

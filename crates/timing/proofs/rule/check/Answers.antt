-- Why `timing::check` answers `profile_rule`: the place that was found and the windows' test are the rule's two tests.
-- Rests on no axiom.
use Rattle.std.proofs.Common.{true, false, sym, ◌∙◌}
use Rattle.timing.proofs.ProfileLaws.{rule_of_unset, rule_of_windows, in_range}
use Rattle.timing.proofs.rule.check.Goals as goal

pub returns-in-Some : goal.returns-in-Some
returns-in-Some c = rule_of_unset _ _ (sym c.lowest_unset.ensures ∙ c.in-Some.is)

pub is_true-requires : goal.is_true-requires
is_true-requires c = in_range _ (sym c.lowest_unset.ensures ∙ c.in_default.is)

pub returns-then-is_true : goal.returns-then-is_true
returns-then-is_true c =
    rule_of_windows _ true (sym c.lowest_unset.ensures ∙ c.in_default.is) (sym c.if-is_true.true ∙ c.is_true.ensures)

pub returns : goal.returns
returns c =
    rule_of_windows _ false (sym c.lowest_unset.ensures ∙ c.in_default.is) (sym c.if-is_true.false ∙ c.is_true.ensures)

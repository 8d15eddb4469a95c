-- Why `merge::check_sets` answers `sets_rule`: a set that cannot be counted is a misfit, and else the counts decide.
-- Rests on no axiom.
use Rattle.std.proofs.Common.{rules}
use mathlib.Core.Path.{ap₂, ◌∙◌}
use Rattle.merge.proofs.RuleLaws.{counts_rule, counts_are_the_rule, first_misfit_decides, second_misfit_decides}
use Rattle.merge.proofs.check_sets.Goals as goal

pub returns-in_err-a : goal.returns-in_err-a
returns-in_err-a c = search (rules, first_misfit_decides)

pub returns-in_err-b : goal.returns-in_err-b
returns-in_err-b c = search (rules, second_misfit_decides _ _ _ _ c.in_ok-a.ensures c.in_err-b.ensures)

pub returns : goal.returns
returns c = c.check_counts.ensures ∙ ap₂ counts_rule c.in_ok-a.ensures c.in_ok-b.ensures ∙ counts_are_the_rule _ _

-- Why `lowest_unset` answers `lowest_unset_of`: where the trial profile is turned away with 1, at that place; else none of
-- the five is out of range. Rests on no axiom.
use Rattle.std.specs.Prelude.{Some}
use mathlib.Core.Path.{sym, ap, ◌∙◌}
use Rattle.refusal.specs.Answer.{verdict_answer}
use Rattle.timing.specs.Profile.{profile_rule}
use Rattle.best.proofs.TrialLaws.{place_of_unset, no_place_if_accepted}
use Rattle.best.proofs.trial.lowest_unset.Goals as goal

pub returns-then-number-eq1 : goal.returns-then-number-eq1
returns-then-number-eq1 c =
    ap Some c.place.ensures
    ∙ (place_of_unset _ _ _
    (sym (ap verdict_answer c.in-Err.is) ∙ c.check.ensures ∙ ap profile_rule c.trial.ensures)
    ).0 (sym c.number.ensures ∙ c.if-number-eq1.true)

pub returns-in-Ok : goal.returns-in-Ok
returns-in-Ok c =
    no_place_if_accepted _ (sym (ap verdict_answer c.in-Ok.is) ∙ c.check.ensures ∙ ap profile_rule c.trial.ensures)

pub returns-else-number-eq1 : goal.returns-else-number-eq1
returns-else-number-eq1 c =
    (place_of_unset _ _ _
    (sym (ap verdict_answer c.in-Err.is) ∙ c.check.ensures ∙ ap profile_rule c.trial.ensures)
    ).1 (λ one. c.if-number-eq1.false (c.number.ensures ∙ one))

-- Why the best windows are answered in turn: a number out of range decides; then no profile with these five is accepted
-- where the rule finds no windows, and where it finds some the one that it gives is. Rests on no axiom.
use mathlib.Core.Path.{refl, sym, ◌∙◌}
use mathlib.Core.Bool.{false≢true}
use Rattle.refusal.specs.Answer.{Answer}
use Rattle.best.specs.Best.{best_profile, best_rule}
use Rattle.best.specs.declared.Writing.{Writing}
use Rattle.best.proofs.BestLaws.{Which, out_of_range, impossible, answered, which, none_if_impossible, given_is_chosen}
use Rattle.demands.specs.Order.{Answers}
use Rattle.demands.specs.BestCauses.{best_order}
use Rattle.demands.proofs.OrderLaws.{answers_accepted, answers_here, answers_later}

in_turn : (w : Writing) (a : Answer) → Which w a → Answers (best_order w) a
in_turn w a (out_of_range unset) = answers_here (unset, refl)
in_turn w a (impossible ranges none) =
    answers_later (λ k c. false≢true (sym ranges ∙ c.0)) (answers_here (none_if_impossible w none, refl))
in_turn w a (answered x) =
    answers_later (λ k c. false≢true (sym x.none_unset ∙ c.0))
    (answers_later (λ k c. c.0 (best_profile w) (given_is_chosen w x)) answers_accepted)

pub best_in_turn : (w : Writing) → Answers (best_order w) (best_rule w)
best_in_turn w = in_turn w (best_rule w) (which w)

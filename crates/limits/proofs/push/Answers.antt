-- Why `push` answers `pushed`: what the search sees is stored at the next place. Rests on no axiom.
use mathlib.Core.Path.{sym, ◌∙◌}
use Rattle.limits.proofs.GatherLaws.{pushed_nothing, pushed_one, pushed_over}
use Rattle.limits.proofs.push.Goals as goal

pub returns-then-at-lt10 : goal.returns-then-at-lt10
returns-then-at-lt10 c =
    rw c.beyond-moved.ensures
    (sym (pushed_one _ _ _ _ _ _ (sym c.search.ensures ∙ c.in-Some.is)
    c.if-at-lt10.true))

pub returns-in-None : goal.returns-in-None
returns-in-None c = sym (pushed_nothing _ _ _ _ (sym c.search.ensures ∙ c.in-None.is))

pub returns-else-at-lt10 : goal.returns-else-at-lt10
returns-else-at-lt10 c =
    sym (pushed_over _ _ _ _ _ _ (sym c.search.ensures ∙ c.in-Some.is)
    c.if-at-lt10.false)

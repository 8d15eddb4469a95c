-- `Pace::check` makes the tests of `pace_rule` in its order. Rests on no axiom.
use mathlib.Core.Path.{sym, ◌∙◌}
use Rattle.pace.specs.Pace.{pace_rule}
use Rattle.pace.proofs.Pace.check.Goals as goal

pub returns-then-off_speed : goal.returns-then-off_speed
unfolding pace_rule
returns-then-off_speed c = rw (sym c.off_speed.ensures ∙ c.if-off_speed.true)

pub returns-then-off_speed-2 : goal.returns-then-off_speed-2
unfolding pace_rule
returns-then-off_speed-2 c =
    rw (sym c.off_speed.ensures ∙ c.if-off_speed.false, sym c.off_speed-2.ensures ∙ c.if-off_speed-2.true)

pub returns : goal.returns
unfolding pace_rule
returns c = rw (sym c.off_speed.ensures ∙ c.if-off_speed.false, sym c.off_speed-2.ensures ∙ c.if-off_speed-2.false)

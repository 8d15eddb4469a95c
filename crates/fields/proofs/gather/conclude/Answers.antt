-- `gather::conclude` makes the tests of `end_rule` in its order. Rests on no axiom.
use mathlib.Core.Path.{sym, ap, ◌∙◌}
use borrow.Author.Tests.{lt-ltb, le-ltb}
use Rattle.refusal.specs.Answer.{refused}
use Rattle.fields.specs.machine.End.{end_rule}
use Rattle.fields.proofs.gather.conclude.Goals as goal

pub returns-then-m-n : goal.returns-then-m-n
unfolding end_rule
returns-then-m-n c = rw (lt-ltb _ _ c.if-m-n.true)

pub returns-then-is_stray : goal.returns-then-is_stray
unfolding end_rule
returns-then-is_stray c =
    let place = rw c.last_place.ensures at c.stray_place.ensures in
    rw (le-ltb _ _ c.if-m-n.false, sym c.is_stray.ensures ∙ c.if-is_stray.true)
    (ap (refused 8) place)

pub returns : goal.returns
unfolding end_rule
returns c = rw (le-ltb _ _ c.if-m-n.false, sym c.is_stray.ensures ∙ c.if-is_stray.false)

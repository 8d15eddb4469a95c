-- Why `search::search` answers `searched`: what is found from the next list on stays what is found from the first.
-- Rests on no axiom.
use mathlib.Core.Path.{refl, sym, ◌∙◌}
use native.Mathlib.Omega.{arith}
use Rattle.limits.specs.machine.Search.{searched}
use Rattle.limits.proofs.SearchLaws.{found_here, found_later, found_nowhere}
use Rattle.limits.proofs.search.search.Goals as goal

pub loop-item-init : goal.loop-item-init
unfolding searched
loop-item-init c = refl

pub returns-then-is_some : goal.returns-then-is_some
returns-then-is_some c =
    sym (found_here _ _ _ _ (omega (arith, c.loop-item-test.true)) _ c.seen_in-seen.ensures
    (sym c.is_some.ensures ∙ c.if-is_some.true))
    ∙ c.loop-item.invariant

pub loop-item-preserved : goal.loop-item-preserved
loop-item-preserved c =
    sym (found_later _ _ _ _ (omega (arith, c.loop-item-test.true)) _ c.seen_in-seen.ensures
    (sym c.is_some.ensures ∙ c.if-is_some.false))
    ∙ c.loop-item.invariant

pub returns : goal.returns
returns c = sym (found_nowhere _ _ _ _ (omega (arith, c.loop-item-test.false))) ∙ c.loop-item.invariant

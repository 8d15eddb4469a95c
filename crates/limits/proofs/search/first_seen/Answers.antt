-- Why `search::first_seen` answers `seen_from`: what is seen from the next interval on stays what is seen from the
-- first. Rests on no axiom.
use mathlib.Core.Path.{sym, ◌∙◌}
use native.Mathlib.Omega.{arith}
use Rattle.limits.proofs.SearchLaws.{seen_here, seen_further, seen_nowhere}
use Rattle.limits.proofs.search.first_seen.Goals as goal

pub overflow_cast-result : goal.overflow_cast-result
overflow_cast-result c =
    let few = c.requires in
    let below = c.loop-k-test.true in
    omega (arith, few, below)

pub returns-then-crosses : goal.returns-then-crosses
returns-then-crosses c =
    sym (seen_here _ _ _ _ _ _ _ c.loop-k-test.true
    (sym c.crosses.ensures ∙ c.if-crosses.true))
    ∙ c.loop-k.invariant

pub loop-k-preserved : goal.loop-k-preserved
loop-k-preserved c =
    rw c.is_two-two.ensures
    (sym (seen_further _ _ _ _ _ _ _ c.loop-k-test.true (sym c.crosses.ensures ∙ c.if-crosses.false))
    ∙ c.loop-k.invariant)

pub returns : goal.returns
returns c = sym (seen_nowhere _ _ _ _ _ _ _ c.loop-k-test.false) ∙ c.loop-k.invariant

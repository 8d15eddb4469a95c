-- Why `search::is_lost` answers `is_lost`: it makes the three tests one after the other. Rests on no axiom.
use mathlib.Core.Path.{sym, ◌∙◌}
use borrow.Author.Tests.{eq-eqb, ne_eqb}
use Rattle.sets.proofs.ShownLaws.{zero_shows_nothing}
use Rattle.page.specs.Reading.{is_lost}
use Rattle.page.proofs.PageLaws.{lost_by_place}
use Rattle.page.proofs.search.is_lost.Goals as goal

pub returns-then-entry-eq0 : goal.returns-then-entry-eq0
unfolding is_lost
returns-then-entry-eq0 c = rw (zero_shows_nothing _ _ c.if-entry-eq0.true)

pub returns-then-set-code-ne3 : goal.returns-then-set-code-ne3
returns-then-set-code-ne3 c =
    sym (lost_by_place c.args.set.now c.args.entry c.if-entry-eq0.false c.requires.1
    ∙ rw (ne_eqb _ 3 c.if-set-code-ne3.true))

pub returns : goal.returns
returns c =
    sym (lost_by_place c.args.set.now c.args.entry c.if-entry-eq0.false
    c.requires.1
    ∙ rw (eq-eqb _ 3 c.if-set-code-ne3.false))

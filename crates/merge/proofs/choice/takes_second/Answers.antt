-- Why `merge::choice::takes_second` answers `takes_second`: neither set has the number twice, so an entry that is not
-- 0 shows one sector. Rests on no axiom.
use native.Mathlib.Omega.{arith}
use borrow.Author.Tests.{eq-eqb, ne_eqb}
use Rattle.sets.specs.Set.{sector_of}
use Rattle.sets.specs.machine.Index.{sector_at}
use Rattle.sets.proofs.ShownLaws.{zero_shows_nothing, place_shows_one}
use Rattle.merge.specs.machine.Tests.{takes_second}
use Rattle.merge.proofs.ChoiceLaws.{single_entries}
use Rattle.merge.proofs.choice.takes_second.Goals as goal

pub returns-then-a-eq0 : goal.returns-then-a-eq0
unfolding takes_second
returns-then-a-eq0 c = rw (zero_shows_nothing _ _ c.if-a-eq0.true)

pub returns-then-b-eq0 : goal.returns-then-b-eq0
unfolding takes_second
returns-then-b-eq0 c =
    let single = single_entries _ _ _ _ c.requires.2 in
    rw (zero_shows_nothing _ _ c.if-b-eq0.true, place_shows_one _ _ c.if-a-eq0.false single.0)

pub bounds-first-a_sum : goal.bounds-first-a_sum
bounds-first-a_sum c =
    let pre = c.requires in
    omega (arith, pre.0 c.if-a-eq0.false (single_entries _ _ _ _ pre.2).0)

pub returns-then-first-a_sum-ne0 : goal.returns-then-first-a_sum-ne0
unfolding takes_second sector_at sector_of
returns-then-first-a_sum-ne0 c =
    let single = single_entries _ _ _ _ c.requires.2 in
    rw (
      place_shows_one _ _ c.if-a-eq0.false single.0,
      place_shows_one _ _ c.if-b-eq0.false single.1,
      ne_eqb _ 0 c.if-first-a_sum-ne0.true,
    )

pub bounds-second-b_sum : goal.bounds-second-b_sum
bounds-second-b_sum c =
    let pre = c.requires in
    omega (arith, pre.1 c.if-b-eq0.false (single_entries _ _ _ _ pre.2).1)

pub returns : goal.returns
unfolding takes_second sector_at sector_of
returns c =
    let single = single_entries _ _ _ _ c.requires.2 in
    rw (
      place_shows_one _ _ c.if-a-eq0.false single.0,
      place_shows_one _ _ c.if-b-eq0.false single.1,
      eq-eqb _ 0 c.if-first-a_sum-ne0.false,
    )

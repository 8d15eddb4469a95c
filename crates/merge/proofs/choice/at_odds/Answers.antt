-- Why `merge::choice::at_odds` answers `at_odds`: the entries tell whether a number is there twice, not at all, or
-- once. Rests on no axiom.
use Rattle.sets.proofs.ShownLaws.{zero_shows_nothing, highest_shows_twice, place_shows_one}
use Rattle.sets.proofs.ShownLaws.{other_shows_no_twice}
use Rattle.merge.specs.Merge.{at_odds}
use Rattle.merge.proofs.ChoiceLaws.{odds_with_nothing, twice_second_is_at_odds}
use Rattle.merge.proofs.choice.at_odds.Goals as goal

pub returns-then-a-eq65535 : goal.returns-then-a-eq65535
unfolding at_odds
returns-then-a-eq65535 c = rw (highest_shows_twice _ _ c.if-a-eq65535.true)

pub returns-then-b-eq65535 : goal.returns-then-b-eq65535
returns-then-b-eq65535 c = rw (highest_shows_twice _ _ c.if-b-eq65535.true, twice_second_is_at_odds)

pub returns-then-a-eq0 : goal.returns-then-a-eq0
unfolding at_odds
returns-then-a-eq0 c = rw (zero_shows_nothing _ _ c.if-a-eq0.true, other_shows_no_twice _ _ c.if-b-eq65535.false)

pub returns-then-b-eq0 : goal.returns-then-b-eq0
returns-then-b-eq0 c =
    rw (
      zero_shows_nothing _ _ c.if-b-eq0.true,
      odds_with_nothing,
      other_shows_no_twice _ _ c.if-a-eq65535.false,
    )

pub returns : goal.returns
unfolding at_odds
returns c =
    rw (
      place_shows_one _ _ c.if-a-eq0.false c.if-a-eq65535.false,
      place_shows_one _ _ c.if-b-eq0.false c.if-b-eq65535.false,
    )
    c.copies_disagree.ensures

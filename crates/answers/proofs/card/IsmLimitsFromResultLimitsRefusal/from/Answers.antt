-- Why a refusal crosses the interface with no limit: none is counted, so that blank ones stand in all ten places. Rests
-- on no axiom.
use Rattle.lists.specs.Filled.{filled}
use Rattle.answers.proofs.card.IsmLimitsFromResultLimitsRefusal.from.Goals as goal

pub returns-in-Err : goal.returns-in-Err
unfolding filled
returns-in-Err c = rw (c.in-Err.is, c.number.ensures, c.place.ensures)

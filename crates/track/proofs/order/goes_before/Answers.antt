-- Why `order::goes_before` answers `handed_before`: where the numbers are equal the places decide. Rests on no axiom.
use Rattle.track.proofs.OrderLaws.{same_number, other_number}
use Rattle.track.proofs.order.goes_before.Goals as goal

pub returns-then-a-b : goal.returns-then-a-b
returns-then-a-b c = same_number _ _ _ _ c.if-a-b.true

pub returns : goal.returns
returns c = other_number _ _ _ _ c.if-a-b.false

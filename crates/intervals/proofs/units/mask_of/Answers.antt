-- `units::mask_of` is `mask_of` itself. Rests on no axiom.
use Rattle.std.proofs.Common.{refl}
use Rattle.intervals.specs.machine.Either.{mask_of}
use Rattle.intervals.proofs.units.mask_of.Goals as goal

pub returns-then-two : goal.returns-then-two
unfolding mask_of
returns-then-two c = rw c.if-two.true refl

pub returns-else-two : goal.returns-else-two
unfolding mask_of
returns-else-two c = rw c.if-two.false refl

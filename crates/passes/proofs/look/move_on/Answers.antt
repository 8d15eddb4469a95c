-- `look::move_on` is the definition, field by field. Rests on no axiom.
use Rattle.std.proofs.Common.{refl}
use Rattle.passes.specs.machine.Look.{calmed}
use Rattle.passes.proofs.look.move_on.Goals as goal

pub returns : goal.returns
unfolding calmed
returns c = rw c.last_bits.ensures refl

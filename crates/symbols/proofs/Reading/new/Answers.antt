-- `Reading::new` is the record `fresh_reading` itself.
use Rattle.std.proofs.Common.{refl}
use Rattle.symbols.specs.machine.Step.{fresh_reading}
use Rattle.symbols.proofs.Reading.new.Goals as goal

pub returns : goal.returns
unfolding fresh_reading
returns c = refl

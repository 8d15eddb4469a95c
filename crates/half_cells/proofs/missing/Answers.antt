-- `word::missing` is `missing` itself.
use Rattle.std.proofs.Common.{refl}
use Rattle.half_cells.specs.machine.Word.{missing}
use Rattle.half_cells.proofs.missing.Goals as goal

pub returns : goal.returns
unfolding missing
returns c = refl

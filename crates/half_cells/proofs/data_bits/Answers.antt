-- `word::data_bits` is the definition, step by step. Rests on no axiom.
use Rattle.std.proofs.Common.{refl}
use Rattle.half_cells.specs.machine.Candidate.{data_bits}
use Rattle.half_cells.proofs.data_bits.Goals as goal

pub returns : goal.returns
unfolding data_bits
returns c = refl

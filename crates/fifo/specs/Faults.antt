-- Document 01, "FIFO and error register": the bit of each fault that the code names. No lemmas here.
use Rattle.std.specs.Prelude.{ℕ}
use Rattle.fifo.specs.Sides as sides
use Rattle.fifo.specs.declared.steps.Fault.{Fault}
use Rattle.fifo.specs.declared.steps.Fault.TheVariants.{Chip, Mark, Processor}

abbrev pub bit_of : Fault → ℕ
bit_of Chip = sides.fault_bit sides.Chip
bit_of Mark = sides.mark_bit
bit_of Processor = sides.fault_bit sides.Processor

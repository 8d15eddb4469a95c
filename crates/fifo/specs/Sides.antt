-- Document 01, "FIFO and error register": the two sides, what the mode gives to each, and the bits of their faults.
-- No lemmas here.
use Rattle.std.specs.Prelude.{ℕ, ◌^◌, Bool, true, false, cond, eqb}
use Rattle.fifo.specs.State.{Mode, WriteMode, ReadMode}

-- the two sides of the FIFO
pub data Side : Type 0 where
  Processor Chip : Side

-- write mode: the processor puts. Read mode: the chip puts
abbrev pub puts : Mode → Side → Bool
puts WriteMode Processor = true
puts WriteMode Chip = false
puts ReadMode Processor = false
puts ReadMode Chip = true

-- write mode: the chip takes. Read mode: the processor takes
abbrev pub takes : Mode → Side → Bool
takes WriteMode Processor = false
takes WriteMode Chip = true
takes ReadMode Processor = true
takes ReadMode Chip = false

-- the processor's fault (put when full, take when empty) is bit 2; the chip's (the same) is bit 0
abbrev pub fault_bit : Side → ℕ
fault_bit Processor = 2 ^ 2
fault_bit Chip = 2 ^ 0

-- a mark taken by the processor at the data location is bit 1
abbrev pub mark_bit : ℕ
mark_bit = 2 ^ 1

-- no fault: no bit
abbrev pub no_bit : ℕ
no_bit = 0

-- the register after a fault: once a bit is set, no other is set
unfoldable pub first_bit : ℕ → ℕ → ℕ
first_bit register bit = cond (eqb register 0) bit register

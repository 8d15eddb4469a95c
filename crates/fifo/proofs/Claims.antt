-- The claim on runs: each of its sentences is a law of runs, at a FIFO that was just made.
use mathlib.Core.Path.{refl}
use mathlib.Core.List.{[]}
use native.Mathlib.Omega.{arith}
use Rattle.fifo.specs.State.{fresh_fifo}
use Rattle.fifo.specs.Runs.{first_fault}
use Rattle.fifo.specs.Claims.{FifoLaw}
use Rattle.fifo.proofs.RunLaws.{run_keeps_mode, run_keeps_items, run_holds_at_most_two, run_keeps_first_fault}

pub fifo_law : FifoLaw
unfolding first_fault
fifo_law =
    record {
      one_mode = λ m os. run_keeps_mode (fresh_fifo m) os;
      in_order = λ m os. run_keeps_items (fresh_fifo m) os;
      at_most_two = λ m os. run_holds_at_most_two (fresh_fifo m) os (omega arith);
      first_fault_kept = λ m os. run_keeps_first_fault [] (fresh_fifo m) os refl;
    }

-- What holds of a FIFO over any list of operations, from the moment it is made. No lemmas here.
use Rattle.std.specs.Prelude.{◌≤◌, ◌≡◌, List, [], ◌++◌, length}
use Rattle.fifo.specs.State.{Mode, fresh_fifo}
use Rattle.fifo.specs.Rules.{Operation}
use Rattle.fifo.specs.Runs.{state_after, items_accepted, items_taken, faults_since, first_fault}

pub record FifoLaw : Type 0 where
  -- the mode stays as it was chosen
  pub one_mode : (m : Mode) (os : List Operation) → (state_after (fresh_fifo m) os).mode ≡ m
  -- first in, first out: the items accepted are those taken and then those still held, in order
  pub in_order : (m : Mode) (os : List Operation)
      → items_accepted (fresh_fifo m) os ≡ items_taken (fresh_fifo m) os ++ (state_after (fresh_fifo m) os).items
  -- at most two items are held
  pub at_most_two : (m : Mode) (os : List Operation) → length (state_after (fresh_fifo m) os).items ≤ 2
  -- the register holds the first fault since it was last read
  pub first_fault_kept : (m : Mode) (os : List Operation)
      → (state_after (fresh_fifo m) os).error ≡ first_fault (faults_since [] (fresh_fifo m) os)

-- Document 01, "FIFO and error register": the state of a FIFO, and the state that each value of the struct stands for.
-- Every value stands for a state. The rules speak of states alone: which value stands for the next state is left free,
-- and no operation tells two values of one state apart. No lemmas here.
use Rattle.std.specs.Prelude.{ℕ, cond, List, [], ◌∷◌, eqb}
use Rattle.refusal.specs.Answer.{Answer}
use Rattle.fifo.specs.declared.Fifo.{Fifo}
use Rattle.fifo.specs.declared.FifoAnswer.{FifoAnswer}

-- the mode, chosen when the FIFO is made
pub data Mode : Type 0 where
  WriteMode ReadMode : Mode

-- the mode, the items in the order in which they came, and the error register
pub record State : Type 0 where
  pub mode : Mode
  pub items : List ℕ
  pub error : ℕ

-- what an operation gives, and the next state
pub record Outcome : Type 0 where
  pub answer : Answer
  pub next : State

-- empty and with register 0 when fresh_fifo
abbrev pub fresh_fifo : Mode → State
fresh_fifo m = record { mode = m; items = []; error = 0 }

-- 0 is write mode, any other number read mode
unfoldable pub mode_of : ℕ → Mode
mode_of n = cond (eqb n 0) WriteMode ReadMode

-- 0 is empty, 1 one item, any other number two
unfoldable pub held_items : ℕ → ℕ → ℕ → List ℕ
held_items held first second = cond (eqb held 0) [] (cond (eqb held 1) (first ∷ []) (first ∷ second ∷ []))

-- the state that a value of the struct stands for
abbrev pub state_of : Fifo → State
state_of f = record { mode = mode_of f.mode; items = held_items f.held f.first f.second; error = f.error }

-- the outcome that an answer of the code stands for
abbrev pub outcome_of : FifoAnswer → Outcome
outcome_of a =
    record { answer = record { number = a.number; place = a.place; count = a.item }; next = state_of a.next }

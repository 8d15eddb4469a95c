-- Document 01, "FIFO and error register": a list of operations, run one after the other. No lemmas here.
use Rattle.std.specs.Prelude.{ℕ, Bool, true, false, cond, not, ◌&&◌, List, [], ◌∷◌, ◌++◌, eqb}
use Rattle.items.specs.Item.{is_item, is_mark}
use Rattle.fifo.specs.State.{State}
use Rattle.fifo.specs.Sides.{Side, Processor, Chip, puts, takes, fault_bit, mark_bit, no_bit}
use Rattle.fifo.specs.Rules.{is_full, rule_of}
use Rattle.fifo.specs.Rules.{Operation, Put, TakeData, TakeMark, ChipPut, ChipTake, ReadError}

-- the state after the operations
unfoldable pub state_after : State → List Operation → State
state_after s [] = s
state_after s (o ∷ os) = state_after (rule_of o s).next os

-- an item is accepted if the mode gives the put to that side, the number is an item, and there is room
abbrev pub accepted_from : Side → ℕ → State → List ℕ
accepted_from side n s = cond (puts s.mode side && is_item n && not (is_full s.items)) (n ∷ []) []

-- the item that an operation accepts, if any
unfoldable pub accepted_by : Operation → State → List ℕ
accepted_by (Put n) s = accepted_from Processor n s
accepted_by TakeData s = []
accepted_by TakeMark s = []
accepted_by (ChipPut n) s = accepted_from Chip n s
accepted_by ChipTake s = []
accepted_by ReadError s = []

-- no item
abbrev pub is_empty : List ℕ → Bool
is_empty [] = true
is_empty (n ∷ ns) = false

-- an item is taken if the mode gives the take to that side, and the FIFO is not empty: the number that is given
abbrev pub taken_from : Side → Operation → State → List ℕ
taken_from side o s = cond (takes s.mode side && not (is_empty s.items)) ((rule_of o s).answer.count ∷ []) []

-- the item that an operation takes, if any
unfoldable pub taken_by : Operation → State → List ℕ
taken_by (Put n) s = []
taken_by TakeData s = taken_from Processor TakeData s
taken_by TakeMark s = taken_from Processor TakeMark s
taken_by (ChipPut n) s = []
taken_by ChipTake s = taken_from Chip ChipTake s
taken_by ReadError s = []

-- the items that the operations accept, in order
unfoldable pub items_accepted : State → List Operation → List ℕ
items_accepted s [] = []
items_accepted s (o ∷ os) = accepted_by o s ++ items_accepted (rule_of o s).next os

-- the items that the operations take, in order
unfoldable pub items_taken : State → List Operation → List ℕ
items_taken s [] = []
items_taken s (o ∷ os) = taken_by o s ++ items_taken (rule_of o s).next os

-- a put of an item when full, by the side that the mode gives it to
abbrev pub fault_of_put : Side → ℕ → State → ℕ
fault_of_put side n s = cond (puts s.mode side && is_item n && is_full s.items) (fault_bit side) no_bit

-- a take when empty; a mark, where that is a fault
abbrev pub fault_of_take : Side → ℕ → List ℕ → ℕ
fault_of_take side mark [] = fault_bit side
fault_of_take side mark (n ∷ ns) = cond (is_mark n) mark no_bit

-- the bit of the fault that an operation is, 0 where it is none
unfoldable pub fault_of : Operation → State → ℕ
fault_of (Put n) s = fault_of_put Processor n s
fault_of TakeData s = cond (takes s.mode Processor) (fault_of_take Processor mark_bit s.items) no_bit
fault_of TakeMark s = cond (takes s.mode Processor) (fault_of_take Processor no_bit s.items) no_bit
fault_of (ChipPut n) s = fault_of_put Chip n s
fault_of ChipTake s = cond (takes s.mode Chip) (fault_of_take Chip no_bit s.items) no_bit
fault_of ReadError s = no_bit

-- whether an operation reads the register
abbrev pub reads_register : Operation → Bool
reads_register (Put n) = false
reads_register TakeData = false
reads_register TakeMark = false
reads_register (ChipPut n) = false
reads_register ChipTake = false
reads_register ReadError = true

-- the faults since the register was last read, in order, after those before
unfoldable pub faults_since : List ℕ → State → List Operation → List ℕ
faults_since before s [] = before
faults_since before s (o ∷ os) =
    faults_since (cond (reads_register o) [] (before ++ (fault_of o s ∷ []))) (rule_of o s).next os

-- the first that is a fault, 0 where none is
unfoldable pub first_fault : List ℕ → ℕ
first_fault [] = no_bit
first_fault (f ∷ fs) = cond (eqb f 0) (first_fault fs) f

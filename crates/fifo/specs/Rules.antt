-- Document 01, "FIFO and error register": what each operation gives, and what state follows. No lemmas here.
use Rattle.std.specs.Prelude.{ℕ, Bool, true, false, cond, not, List, [], ◌∷◌, ◌++◌}
use Rattle.refusal.specs.Answer.{accepted, refused}
use Rattle.items.specs.Item.{is_item, is_mark}
use Rattle.fifo.specs.State.{State, Outcome}
use Rattle.fifo.specs.Sides.{Side, Processor, Chip, puts, takes, fault_bit, mark_bit, no_bit, first_bit}

-- the state with a fault's bit in its register
abbrev pub with_bit : ℕ → State → State
with_bit bit s = record { mode = s.mode; items = s.items; error = first_bit s.error bit }

-- the state with other items
abbrev pub with_items : List ℕ → State → State
with_items ns s = record { mode = s.mode; items = ns; error = s.error }

-- two items
abbrev pub is_full : List ℕ → Bool
is_full [] = false
is_full (n ∷ []) = false
is_full (n ∷ m ∷ ns) = true

-- not turned away: the number given, and the next state
abbrev pub gives : ℕ → State → Outcome
gives n s = record { answer = accepted n; next = s }

-- turned away with 3, place 0, the state unchanged
abbrev pub foreign : State → Outcome
foreign s = record { answer = refused 3 0; next = s }

-- a put that the mode gives to its side: 3 for no item, before the test for full; a faulty put drops the item
unfoldable pub putting : ℕ → ℕ → State → Outcome
putting bit n s =
    cond (not (is_item n)) (foreign s)
    (cond (is_full s.items) (gives 0 (with_bit bit s))
    (gives 0 (with_items (s.items ++ (n ∷ [])) s)))

-- a take that the mode gives to its side: a faulty take gives 0; a mark that is a fault is still handed over
unfoldable pub taking : ℕ → ℕ → List ℕ → State → Outcome
taking bit mark [] s = gives 0 (with_bit bit s)
taking bit mark (n ∷ ns) s = gives n (with_bit (cond (is_mark n) mark no_bit) (with_items ns s))

-- a put, which the mode may not give to that side: then it changes nothing and gives 0, before any other test
unfoldable pub put_rule : Side → ℕ → State → Outcome
put_rule side n s = cond (puts s.mode side) (putting (fault_bit side) n s) (gives 0 s)

-- a take, the same; mark is the bit of a mark that is taken there
unfoldable pub take_rule : Side → ℕ → State → Outcome
take_rule side mark s = cond (takes s.mode side) (taking (fault_bit side) mark s.items s) (gives 0 s)

-- the register is read, which clears it
abbrev pub read_error_rule : State → Outcome
read_error_rule s = gives s.error (record { mode = s.mode; items = s.items; error = 0 })

-- the processor puts, and takes at the data and at the mark location; the chip puts and takes; the register is read
pub data Operation : Type 0 where
  Put : ℕ → Operation
  TakeData TakeMark : Operation
  ChipPut : ℕ → Operation
  ChipTake ReadError : Operation

-- the rule of each operation: a mark is a fault where the processor takes it at the data location, and nowhere else
abbrev pub rule_of : Operation → State → Outcome
rule_of (Put n) s = put_rule Processor n s
rule_of TakeData s = take_rule Processor mark_bit s
rule_of TakeMark s = take_rule Processor no_bit s
rule_of (ChipPut n) s = put_rule Chip n s
rule_of ChipTake s = take_rule Chip no_bit s
rule_of ReadError s = read_error_rule s

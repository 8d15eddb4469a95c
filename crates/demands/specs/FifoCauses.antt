-- Document 01, "FIFO and error register": the tests of a put in their turn. No lemmas here.
use Rattle.std.specs.Prelude.{ℕ, ◌≡◌, true, false, [], ◌∷◌, ◌++◌}
use Rattle.items.specs.Item.{is_item}
use Rattle.fifo.specs.State.{State, Outcome}
use Rattle.fifo.specs.Sides.{Side, puts, fault_bit}
use Rattle.fifo.specs.Rules.{with_bit, with_items, is_full, gives}
use Rattle.fifo.specs.Rules.{Operation, TakeData, TakeMark, ChipTake, ReadError, rule_of}
use Rattle.demands.specs.Order.{Order, accept, turn, at0, Answers}

-- 3, foreign: the mode gives the put to that side, and the number is no item; place 0. Nothing else is turned away
abbrev pub put_order : Side → ℕ → State → Order
put_order side n s = turn 3 (at0 ((puts s.mode side ≡ true) × (is_item n ≡ false))) accept

pub record PutsInTurn (side : Side) (n : ℕ) (s : State) (outcome : Outcome) : Type 0 where
  pub answer : Answers (put_order side n s) outcome.answer
  -- the mode before any other test: a put that it does not give to that side changes nothing and gives 0
  pub mode_first : puts s.mode side ≡ false → outcome ≡ gives 0 s
  -- then 3, the state unchanged, before the test for full
  pub then_foreign : puts s.mode side ≡ true → is_item n ≡ false → outcome.next ≡ s
  -- then full: the fault's bit, and the item is dropped
  pub then_full
      : puts s.mode side ≡ true
      → is_item n ≡ true
      → is_full s.items ≡ true
      → outcome ≡ gives 0 (with_bit (fault_bit side) s)
  -- else the item comes in behind the others
  pub else_in
      : puts s.mode side ≡ true
      → is_item n ≡ true
      → is_full s.items ≡ false
      → outcome ≡ gives 0 (with_items (s.items ++ (n ∷ [])) s)

-- an operation that turns nothing away
abbrev pub NeverRefuses : Operation → Type 0
NeverRefuses o = (s : State) → (rule_of o s).answer.number ≡ 0

-- the operations that put nothing
pub record TakesRefuseNothing : Type 0 where
  pub data_location : NeverRefuses TakeData
  pub mark_location : NeverRefuses TakeMark
  pub chip : NeverRefuses ChipTake
  pub register : NeverRefuses ReadError

-- Small runs: the rules compute to the state that the paper's words give.
use Prim.Native.Nat.{ℕ}
use mathlib.Core.Path.{◌≡◌, refl}
use mathlib.Core.List.{[], ◌∷◌}
use Rattle.items.specs.Item.{is_byte, is_item, is_mark, is_check}
use Rattle.fifo.specs.State.{WriteMode, ReadMode, State, fresh_fifo}
use Rattle.fifo.specs.Sides.{first_bit}
use Rattle.fifo.specs.Rules.{gives, foreign, putting, taking, put_rule, take_rule, rule_of}
use Rattle.fifo.specs.Rules.{Put, TakeData, TakeMark, ChipPut, ChipTake, ReadError}
use Rattle.fifo.specs.Runs.{state_after}

abbrev mark : ℕ
mark = 0x1a1

-- write mode, full, with the processor's fault
abbrev overrun : State
overrun = record { mode = WriteMode; items = 5 ∷ 6 ∷ []; error = 4 }

-- read mode, empty, with one bit set
abbrev emptied : ℕ → State
emptied bit = record { mode = ReadMode; items = []; error = bit }

pub small_runs :
    -- a third put finds the FIFO full and drops the item
    (state_after (fresh_fifo WriteMode) (Put 5 ∷ Put 6 ∷ Put 7 ∷ []) ≡ overrun)
    -- a number that is no item is turned away before the test for full
    × (rule_of (Put 600) overrun ≡ foreign overrun)
    -- and is not tested in the mode in which the processor does not put
    × (rule_of (Put 600) (fresh_fifo ReadMode) ≡ gives 0 (fresh_fifo ReadMode))
    -- the chip takes the first item first
    × (rule_of ChipTake overrun ≡ gives 5 (record { mode = WriteMode; items = 6 ∷ []; error = 4 }))
    -- a mark at the data location is a fault and is handed over
    × (rule_of TakeData (state_after (fresh_fifo ReadMode) (ChipPut mark ∷ [])) ≡ gives mark (emptied 2))
    -- at the mark location it is no fault; nor is a check order at the data location
    × (state_after (fresh_fifo ReadMode) (ChipPut mark ∷ TakeMark ∷ ChipPut 512 ∷ TakeData ∷ []) ≡ emptied 0)
    -- the first fault stays until the register is read
    × (state_after (fresh_fifo ReadMode) (TakeMark ∷ ChipPut mark ∷ TakeData ∷ []) ≡ emptied 4)
    × (state_after (fresh_fifo ReadMode) (TakeMark ∷ ReadError ∷ ChipPut mark ∷ TakeData ∷ []) ≡ emptied 2)
unfolding state_after put_rule putting take_rule taking first_bit is_byte is_item is_mark is_check
small_runs = (refl, refl, refl, refl, refl, refl, refl, refl)

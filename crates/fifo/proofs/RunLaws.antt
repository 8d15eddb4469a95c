-- Why a FIFO keeps its mode, its items in order and its first fault over any list of operations: every operation does,
-- and the rest is induction over the list.
use Prim.Native.Nat.{ℕ, ◌≤◌}
use mathlib.Core.Path.{◌≡◌, refl, sym, ◌∙◌}
use mathlib.Core.Bool.{Bool, true, false, cond, not, ◌&&◌}
use mathlib.Core.List.{List, [], ◌∷◌, ◌++◌, append_assoc, append-nil}
use native.Mathlib.Omega.{arith}
use lib.ListN.{length}
use lib.Dec.{eqb}
use Rattle.items.specs.Item.{is_item}
use Rattle.fifo.specs.State.{Mode, State, Outcome}
use Rattle.fifo.specs.Sides.{Side, Processor, Chip, puts, takes, fault_bit, mark_bit, no_bit, first_bit}
use Rattle.fifo.specs.Rules.{with_bit, with_items, is_full, gives, foreign, putting, taking, put_rule, take_rule}
use Rattle.fifo.specs.Rules.{rule_of, Operation, Put, TakeData, TakeMark, ChipPut, ChipTake, ReadError}
use Rattle.fifo.specs.Runs.{state_after, accepted_by, is_empty, taken_by, items_accepted, items_taken, fault_of_take}
use Rattle.fifo.specs.Runs.{fault_of, reads_register, faults_since, first_fault}
use Rattle.fifo.proofs.StateLaws.{no_bit_keeps_register}

-- what one operation that accepts and takes these items keeps, with the register after it
pub record Kept (s : State) (accepts gave : List ℕ) (register : ℕ) (next : State) : Type 0 where
  pub mode : next.mode ≡ s.mode
  pub items : s.items ++ accepts ≡ gave ++ next.items
  pub few : length s.items ≤ 2 → length next.items ≤ 2
  pub error : next.error ≡ register

module _ (m : Mode) (e : ℕ) (side : Side) where
  abbrev holding : List ℕ → State
  holding ns = record { mode = m; items = ns; error = e }

  unchanged : (ns : List ℕ) → Kept (holding ns) [] [] (first_bit e no_bit) (holding ns)
  unchanged ns = record { mode = refl; items = append-nil ns; few = λ h. h; error = sym (no_bit_keeps_register e) }

  -- t: the mode gives the put to that side; u: the number is an item
  abbrev put : Bool → Bool → ℕ → List ℕ → Outcome
  put t u n ns =
      cond t (cond (not u) (foreign (holding ns))
      (cond (is_full ns) (gives 0 (with_bit (fault_bit side) (holding ns)))
      (gives 0 (with_items (ns ++ (n ∷ [])) (holding ns)))))
      (gives 0 (holding ns))

  put_keeps : (t u : Bool) (n : ℕ) (ns : List ℕ)
      → Kept (holding ns) (cond (t && u && not (is_full ns)) (n ∷ []) []) []
      (first_bit e (cond (t && u && is_full ns) (fault_bit side) no_bit)) (put t u n ns).next
  put_keeps true true n [] =
      record { mode = refl; items = refl; few = λ h. omega arith; error = sym (no_bit_keeps_register e) }
  put_keeps true true n (a ∷ []) =
      record { mode = refl; items = refl; few = λ h. omega arith; error = sym (no_bit_keeps_register e) }
  put_keeps true true n (a ∷ b ∷ ns) =
      record { mode = refl; items = append-nil (a ∷ b ∷ ns); few = λ h. h; error = refl }
  put_keeps true false n ns = unchanged ns
  put_keeps false u n ns = unchanged ns

  -- t: the mode gives the take to that side
  abbrev take : Bool → ℕ → List ℕ → Outcome
  take t mark ns = cond t (taking (fault_bit side) mark ns (holding ns)) (gives 0 (holding ns))

  take_keeps : (t : Bool) (mark : ℕ) (ns : List ℕ)
      → Kept (holding ns) [] (cond (t && not (is_empty ns)) ((take t mark ns).answer.count ∷ []) [])
      (first_bit e (cond t (fault_of_take side mark ns) no_bit)) (take t mark ns).next
  unfolding taking
  take_keeps true mark [] = record { mode = refl; items = refl; few = λ h. h; error = refl }
  take_keeps true mark (n ∷ ns) =
      record { mode = refl; items = append-nil (n ∷ ns); few = λ h. omega arith; error = refl }
  take_keeps false mark ns = unchanged ns

pub operation_keeps : (o : Operation) (s : State)
    → Kept s (accepted_by o s) (taken_by o s) (cond (reads_register o) 0 (first_bit s.error (fault_of o s)))
    (rule_of o s).next
unfolding accepted_by taken_by fault_of put_rule putting take_rule
operation_keeps (Put n) s = put_keeps s.mode s.error Processor (puts s.mode Processor) (is_item n) n s.items
operation_keeps TakeData s = take_keeps s.mode s.error Processor (takes s.mode Processor) mark_bit s.items
operation_keeps TakeMark s = take_keeps s.mode s.error Processor (takes s.mode Processor) no_bit s.items
operation_keeps (ChipPut n) s = put_keeps s.mode s.error Chip (puts s.mode Chip) (is_item n) n s.items
operation_keeps ChipTake s = take_keeps s.mode s.error Chip (takes s.mode Chip) no_bit s.items
operation_keeps ReadError s = record { mode = refl; items = append-nil s.items; few = λ h. h; error = refl }

pub run_keeps_mode : (s : State) (os : List Operation) → (state_after s os).mode ≡ s.mode
unfolding state_after
run_keeps_mode s [] = refl
run_keeps_mode s (o ∷ os) = run_keeps_mode (rule_of o s).next os ∙ (operation_keeps o s).mode

pub run_keeps_items : (s : State) (os : List Operation)
    → s.items ++ items_accepted s os ≡ items_taken s os ++ (state_after s os).items
unfolding state_after items_accepted items_taken
run_keeps_items s [] = append-nil s.items
run_keeps_items s (o ∷ os) =
    let next = (rule_of o s).next in
    rw (← append_assoc s.items (accepted_by o s), (operation_keeps o s).items)
    (simp (append_assoc, run_keeps_items next os))

pub run_holds_at_most_two : (s : State) (os : List Operation) → length s.items ≤ 2
    → length (state_after s os).items ≤ 2
unfolding state_after
run_holds_at_most_two s [] h = h
run_holds_at_most_two s (o ∷ os) h = run_holds_at_most_two (rule_of o s).next os ((operation_keeps o s).few h)

-- one fault more counts only where none was before it
first_fault_of_one_more : (fs : List ℕ) (f : ℕ) → first_fault (fs ++ (f ∷ [])) ≡ first_bit (first_fault fs) f
unfolding first_fault first_bit
first_fault_of_one_more [] f = no_bit_keeps_register f
first_fault_of_one_more (g ∷ fs) f =
    (elim (eqb g 0) as (λ t.
    eqb g 0 ≡ t → cond t (first_fault (fs ++ (f ∷ []))) g ≡ first_bit (cond t (first_fault fs) g) f)
    [ true ↦ λ h. first_fault_of_one_more fs f | false ↦ λ h. rw h ]) refl

register_holds_first_fault : (read : Bool) (e : ℕ) (fs : List ℕ) (f : ℕ) → e ≡ first_fault fs
    → cond read 0 (first_bit e f) ≡ first_fault (cond read [] (fs ++ (f ∷ [])))
unfolding first_fault
register_holds_first_fault true e fs f h = refl
register_holds_first_fault false e fs f h = rw h (sym (first_fault_of_one_more fs f))

pub run_keeps_first_fault : (fs : List ℕ) (s : State) (os : List Operation) → s.error ≡ first_fault fs
    → (state_after s os).error ≡ first_fault (faults_since fs s os)
unfolding state_after faults_since
run_keeps_first_fault fs s [] h = h
run_keeps_first_fault fs s (o ∷ os) h =
    run_keeps_first_fault (cond (reads_register o) [] (fs ++ (fault_of o s ∷ []))) (rule_of o s).next os
    ((operation_keeps o s).error ∙ register_holds_first_fault (reads_register o) s.error fs (fault_of o s) h)

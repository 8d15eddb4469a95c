-- A field whose intervals are taken as cells: up to the first interval that is none both take the same cells, so that the
-- paper's stop is that interval, or else that of the cells; by induction on the list. Rests on no axiom.
use Prim.Native.Nat.{ℕ, zero, suc}
use mathlib.Core.Path.{◌≡◌, refl, ap}
use mathlib.Core.Bool.{true}
use mathlib.Core.List.{List, ◌∷◌}
use native.Mathlib.Omega.{arith}
use lib.ListN.{length, take}
use Rattle.refusal.specs.Answer.{Answer, first_refusal}
use Rattle.timing.specs.Class.{is_cell}
use Rattle.timing.specs.declared.Class.{Class}
use Rattle.timing.specs.declared.Class.TheVariants.{Narrow, Two, Three, Four, Wide}
use Rattle.symbols.specs.Bits.{Bit}
use Rattle.symbols.specs.Reading.{last_after}
use Rattle.symbols.specs.declared.Cell.{Cell}
use Rattle.symbols.specs.declared.Cell.TheVariants.{Short, Medium, Long}
use Rattle.intervals.specs.Cells.{edge_rule_from}
use Rattle.intervals.proofs.CellLaws.{ReadAs, as_short, as_medium, as_long, cell_is_read}
use Rattle.intervals.proofs.TakenAsLaws.{TakenAs, taken_none, taken_more}
use Rattle.fields.specs.Field.{wanted_after, cells_taken, stop_from}
use Rattle.fields.proofs.TakenLaws.{taken_one_more}
use Rattle.fields.proofs.EnoughLaws.{classes_of_cells}

-- the rule for 5 and 6 over as many classes as cells are taken
abbrev edges_taken : List Class → List Cell → ℕ → ℕ → Bit → Answer
edges_taken cs xs k want b = edge_rule_from k (take (length (cells_taken (classes_of_cells xs) want b)) cs)

pub record TakenField (cs : List Class) (xs : List Cell) (k want : ℕ) (b : Bit) : Type 0 where
  pub stop : stop_from cs k want b ≡ first_refusal (edges_taken cs xs k want b) (stop_from (classes_of_cells xs) k want b)
  pub cells : (edges_taken cs xs k want b).number ≡ 0 → cells_taken cs want b ≡ cells_taken (classes_of_cells xs) want b

module _ (k want : ℕ) (b : Bit) (cs : List Class) (xs : List Cell) where
  one_more
      : {c : Class} {x : Cell}
      → ReadAs c x
      → TakenField cs xs (suc k) (wanted_after (suc want) b x) (last_after b x)
      → TakenField (c ∷ cs) (x ∷ xs) k (suc want) b
  unfolding cells_taken stop_from edge_rule_from
  one_more as_short rest =
      record { stop = rest.stop; cells = λ e. ap (λ (ys : List Cell). Short ∷ ys) (rest.cells e) }
  one_more as_medium rest =
      record { stop = rest.stop; cells = λ e. ap (λ (ys : List Cell). Medium ∷ ys) (rest.cells e) }
  one_more as_long rest =
      record { stop = rest.stop; cells = λ e. ap (λ (ys : List Cell). Long ∷ ys) (rest.cells e) }

  by_class
      : (c : Class) (x : Cell)
      → (is_cell c ≡ true → ReadAs c x)
      → TakenField cs xs (suc k) (wanted_after (suc want) b x) (last_after b x)
      → TakenField (c ∷ cs) (x ∷ xs) k (suc want) b
  unfolding stop_from edge_rule_from
  by_class Narrow x read rest =
      let taken = taken_one_more (cell_is_read x) (classes_of_cells xs) want b in
      record { stop = rw taken; cells = λ e. absurd (let refused = rw taken at e in omega arith) }
  by_class Two x read rest = one_more (read refl) rest
  by_class Three x read rest = one_more (read refl) rest
  by_class Four x read rest = one_more (read refl) rest
  by_class Wide x read rest =
      let taken = taken_one_more (cell_is_read x) (classes_of_cells xs) want b in
      record { stop = rw taken; cells = λ e. absurd (let refused = rw taken at e in omega arith) }

pub taken_field : {cs : List Class} {xs : List Cell} → TakenAs cs xs → (k want : ℕ) (b : Bit) → TakenField cs xs k want b
unfolding cells_taken stop_from edge_rule_from
taken_field taken_none k zero b = record { stop = refl; cells = λ e. refl }
taken_field taken_none k (suc want) b = record { stop = refl; cells = λ e. refl }
taken_field (taken_more read taken) k zero b = record { stop = refl; cells = λ e. refl }
taken_field (taken_more {c} {x} {cs} {xs} read taken) k (suc want) b =
    by_class k want b cs xs c x read (taken_field taken (suc k) (wanted_after (suc want) b x) (last_after b x))

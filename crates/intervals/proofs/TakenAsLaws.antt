-- An interval taken as a cell by the edges between the windows: where it is a cell it is that one, so that a list in
-- which none is narrow or wide has exactly these cells. By induction on the list. Rests on no axiom.
use Rattle.std.proofs.Common.{◌≡◌, ℕ, suc, ◌+◌, true, List, [], ◌∷◌, ◌++◌, map, length, refl, ap, ◌∙◌, arith}
use Rattle.refusal.specs.Answer.{first_refusal}
use Rattle.timing.specs.Class.{class_in, is_cell, cursor_past, classes_from, Ascending}
use Rattle.timing.specs.machine.Edges.{units_in, units_from}
use Rattle.timing.specs.declared.Class.{Class}
use Rattle.timing.specs.declared.Class.TheVariants.{Narrow, Two, Three, Four, Wide}
use Rattle.timing.specs.declared.cursor.Cursor.{Cursor}
use Rattle.timing.proofs.ClassLaws.{classes_none, classes_cons}
use Rattle.timing.proofs.EdgeLaws.{ascending_past}
use Rattle.timing.proofs.UnitsLaws.{units_none, units-cons, units_in_range, units_of_cell}
use Rattle.symbols.specs.Reading.{units}
use Rattle.symbols.specs.machine.Step.{AllCells}
use Rattle.symbols.specs.declared.Cell.{Cell}
use Rattle.intervals.specs.Cells.{edge_rule_from, cells_of_classes}
use Rattle.intervals.proofs.CellLaws.{ReadAs, cell_of_units, units_of_its_cell, cell_is_read_as, read_first}
use Rattle.intervals.proofs.CellLaws.{fair_first}

-- the cells that intervals are taken as
abbrev pub taken_cells : Cursor → List ℕ → List Cell
taken_cells c ds = map cell_of_units (units_from c ds)

pub units_of_taken_cells : (c : Cursor) (ds : List ℕ) → map units (taken_cells c ds) ≡ units_from c ds
units_of_taken_cells c [] = rw (units_none c)
units_of_taken_cells c (d ∷ ds) =
    let range = units_in_range c d in
    rw (units-cons c d ds)
    (cc (units_of_its_cell (units_in c d) range.0 range.1, units_of_taken_cells (cursor_past c d) ds))

-- whatever they are, they are taken as cells
pub units_are_cells : (c : Cursor) (ds : List ℕ) → AllCells (units_from c ds)
unfolding AllCells units_from
units_are_cells c [] = tt
units_are_cells c (d ∷ ds) =
    let range = units_in_range c d in (range.0, range.1, units_are_cells (cursor_past c d) ds)

-- classes, and cells that they are read as where they are cells
pub data TakenAs : List Class → List Cell → Type 0 where
  taken_none : TakenAs [] []
  taken_more
      : {c : Class} {x : Cell} {cs : List Class} {xs : List Cell}
      → (is_cell c ≡ true → ReadAs c x)
      → TakenAs cs xs
      → TakenAs (c ∷ cs) (x ∷ xs)

pub classes_are_taken_as : (c : Cursor) (ds : List ℕ) → Ascending c → TakenAs (classes_from c ds) (taken_cells c ds)
classes_are_taken_as c [] up = rw (classes_none c, units_none c) taken_none
classes_are_taken_as c (d ∷ ds) up =
    rw (classes_cons c d ds, units-cons c d ds)
    (taken_more {c = class_in c d} {x = cell_of_units (units_in c d)}
    (λ cell. rw (units_of_cell c d up cell) (cell_is_read_as (class_in c d) cell))
    (classes_are_taken_as (cursor_past c d) ds (ascending_past c d up)))

-- where none is narrow or wide, they are the cells
pub taken_are_cells
    : {cs : List Class} {xs : List Cell} (k : ℕ)
    → TakenAs cs xs
    → (edge_rule_from k cs).number ≡ 0
    → cells_of_classes cs ≡ xs
unfolding cells_of_classes
taken_are_cells k taken_none e = refl
taken_are_cells k (taken_more {c} {x} {cs} {xs} read taken) e =
    let (cell, rest) = fair_first k c cs e in
    (read_first k cs (read cell)).1 ∙ ap (λ (ys : List Cell). x ∷ ys) (taken_are_cells (suc k) taken rest)

-- ---- 5 and 6

-- a list in two parts: the first that is no cell, in the one or in the other
pub edges_of_append
    : (k : ℕ) (cs ds : List Class)
    → edge_rule_from k (cs ++ ds) ≡ first_refusal (edge_rule_from k cs) (edge_rule_from (k + length cs) ds)
unfolding edge_rule_from
edges_of_append k [] ds = let none : k + 0 ≡ k = omega arith in rw none
edges_of_append k (c ∷ cs) ds =
    let later : edge_rule_from (suc k) (cs ++ ds)
    ≡ first_refusal (edge_rule_from (suc k) cs) (edge_rule_from (k + suc (length cs)) ds) =
    let place : suc k + length cs ≡ k + suc (length cs) = omega arith in
    edges_of_append (suc k) cs ds
    ∙ ap (λ (j : ℕ). first_refusal (edge_rule_from (suc k) cs) (edge_rule_from j ds)) place in
    elim c as (λ x. edge_rule_from k (x ∷ cs ++ ds)
    ≡ first_refusal (edge_rule_from k (x ∷ cs)) (edge_rule_from (k + suc (length cs)) ds)) [
      | Narrow ↦ refl
      | Two ↦ later
      | Three ↦ later
      | Four ↦ later
      | Wide ↦ refl
    ]

-- Classes and cells are the same thing under two names: a class whose number is a cell's units is that cell, and
-- narrow and wide are the units of none. Rests on no axiom.
use Rattle.std.proofs.Common.{◌≡◌, ℕ, suc, ◌≤◌, List, [], ◌∷◌, map, length, refl, ap, ◌∙◌, arith}
use Rattle.refusal.specs.Answer.{accepted}
use Rattle.timing.specs.Class.{class_number}
use Rattle.timing.specs.declared.Class.{Class}
use Rattle.timing.specs.declared.Class.TheVariants.{Two, Three, Four}
use Rattle.symbols.specs.Reading.{units}
use Rattle.symbols.specs.declared.Cell.{Cell}
use Rattle.symbols.specs.declared.Cell.TheVariants.{Short, Medium, Long}
use Rattle.intervals.specs.Cells.{edge_rule, edge_rule_from, cells_of_classes}
use Rattle.intervals.proofs.CellLaws.{ReadAs, as_short, as_medium, as_long, by_each_class, cell_is_read_as}
use Rattle.intervals.proofs.CellLaws.{read_first, fair_first, same_number}

pub cells_at_most_classes : (cs : List Class) → length (cells_of_classes cs) ≤ length cs
unfolding cells_of_classes
cells_at_most_classes [] = omega arith
cells_at_most_classes (c ∷ cs) =
    let rest = cells_at_most_classes cs in
    by_each_class (λ (c : Class). length (cells_of_classes (c ∷ cs)) ≤ suc (length cs)) (omega arith)
    (λ c x read. rw (read_first 0 cs read).1 (omega arith)) (omega arith) c

read_as : (c : Class) (x : Cell) → class_number c ≡ units x → ReadAs c x
read_as c Short h = rw (same_number c Two h) as_short
read_as c Medium h = rw (same_number c Three h) as_medium
read_as c Long h = rw (same_number c Four h) as_long

classes_are_cells_from
    : (k : ℕ) (cs : List Class) (xs : List Cell)
    → map class_number cs ≡ map units xs
    → (edge_rule_from k cs ≡ accepted 0) × (cells_of_classes cs ≡ xs)
unfolding edge_rule_from cells_of_classes
classes_are_cells_from k [] [] h = (refl, refl)
classes_are_cells_from k [] (x ∷ xs) h = absurd (omega (arith, ap length h))
classes_are_cells_from k (c ∷ cs) [] h = absurd (omega (arith, ap length h))
classes_are_cells_from k (c ∷ cs) (x ∷ xs) h =
    let (rule, cells, number) = read_first k cs (read_as c x (cc)) in
    let (fair, rest) = classes_are_cells_from (suc k) cs xs (cc) in
    (rule ∙ fair, cells ∙ ap (λ (ys : List Cell). x ∷ ys) rest)

-- classes whose numbers are the units of cells are those cells, and none is narrow or wide
pub classes_are_cells
    : (cs : List Class) (xs : List Cell)
    → map class_number cs ≡ map units xs
    → (edge_rule cs ≡ accepted 0) × (cells_of_classes cs ≡ xs)
unfolding edge_rule
classes_are_cells cs xs h = classes_are_cells_from 0 cs xs h

-- the other way round: where none is narrow or wide, the numbers are the units of the cells
cells_are_classes_from
    : (k : ℕ) (cs : List Class) → (edge_rule_from k cs).number ≡ 0 → map class_number cs ≡ map units (cells_of_classes cs)
unfolding edge_rule_from cells_of_classes
cells_are_classes_from k [] h = refl
cells_are_classes_from k (c ∷ cs) h =
    let (cell, rest) = fair_first k c cs h in
    let (rule, cells, number) = read_first k cs (cell_is_read_as c cell) in
    rw cells (cc (cells_are_classes_from (suc k) cs rest))

pub cells_are_classes : (cs : List Class) → (edge_rule cs).number ≡ 0 → map class_number cs ≡ map units (cells_of_classes cs)
unfolding edge_rule
cells_are_classes cs h = cells_are_classes_from 0 cs h

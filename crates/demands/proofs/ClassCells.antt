-- The class that units ask for is the class of their number, and the class that is read as their cell. Rests on no
-- axiom.
use mathlib.Core.Path.{◌≡◌, refl}
use mathlib.Core.List.{List, [], ◌∷◌, map}
use Rattle.timing.specs.Class.{class_number}
use Rattle.timing.specs.declared.Class.{Class}
use Rattle.timing.specs.declared.Class.TheVariants.{Narrow, Two, Three, Four, Wide}
use Rattle.symbols.specs.Reading.{units}
use Rattle.symbols.specs.declared.Cell.{Cell}
use Rattle.symbols.specs.declared.Cell.TheVariants.{Short, Medium, Long}
use Rattle.lengths.specs.Units.{class_of_units}
use Rattle.intervals.proofs.CellLaws.{class_of_cell}

-- the class that units ask for is the class that is read as the cell, and has their number
pub classes_of_cells
    : (xs : List Cell)
    → (map class_of_units (map units xs) ≡ map class_of_cell xs) × (map class_number (map class_of_cell xs) ≡ map units xs)
unfolding class_of_units
classes_of_cells [] = (refl, refl)
classes_of_cells (Short ∷ xs) = let rest = classes_of_cells xs in (cc, cc)
classes_of_cells (Medium ∷ xs) = let rest = classes_of_cells xs in (cc, cc)
classes_of_cells (Long ∷ xs) = let rest = classes_of_cells xs in (cc, cc)

-- and a class is known by its number
class_of_number : (c : Class) → class_of_units (class_number c) ≡ c
unfolding class_of_units
class_of_number Narrow = refl
class_of_number Two = refl
class_of_number Three = refl
class_of_number Four = refl
class_of_number Wide = refl

pub classes_of_numbers : (cs : List Class) → map class_of_units (map class_number cs) ≡ cs
classes_of_numbers [] = refl
classes_of_numbers (c ∷ cs) = cc (class_of_number c, classes_of_numbers cs)

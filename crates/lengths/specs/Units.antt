-- Document 01, "Profile": the class that a cell's units ask for. No lemmas here.
use Rattle.std.specs.Prelude.{ℕ, zero, suc}
use Rattle.timing.specs.declared.Class.{Class}
use Rattle.timing.specs.declared.Class.TheVariants.{Narrow, Two, Three, Four, Wide}

-- the class of a cell's own length: a cell of 2, 3 or 4 units has that class
unfoldable pub class_of_units : ℕ → Class
class_of_units zero = Narrow
class_of_units (suc zero) = Narrow
class_of_units (suc (suc zero)) = Two
class_of_units (suc (suc (suc zero))) = Three
class_of_units (suc (suc (suc (suc zero)))) = Four
class_of_units (suc (suc (suc (suc (suc n))))) = Wide

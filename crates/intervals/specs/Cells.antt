-- Document 01, "From bits to cells", reading: an interval's class as a cell of 2, 3 or 4 units, and a stream as cells.
-- No lemmas here.
use Rattle.std.specs.Prelude.{ℕ, suc, List, [], ◌∷◌}
use Rattle.refusal.specs.Answer.{Answer, accepted, refused}
use Rattle.timing.specs.Class.{classes_of}
use Rattle.timing.specs.declared.Profile.{Profile}
use Rattle.timing.specs.declared.Class.{Class}
use Rattle.timing.specs.declared.Class.TheVariants.{Narrow, Two, Three, Four, Wide}
use Rattle.symbols.specs.declared.Cell.{Cell}
use Rattle.symbols.specs.declared.Cell.TheVariants.{Short, Medium, Long}

-- what follows for a narrow interval, for one that is a cell, and for a wide one
abbrev pub by_class : {A : Type 0} → Class → A → (Cell → A) → A → A
by_class Narrow narrow read wide = narrow
by_class Two narrow read wide = read Short
by_class Three narrow read wide = read Medium
by_class Four narrow read wide = read Long
by_class Wide narrow read wide = wide

-- 5, narrow, or 6, wide: the first interval of a stream that is either, the first interval of all having place k
unfoldable pub edge_rule_from : ℕ → List Class → Answer
edge_rule_from k [] = accepted 0
edge_rule_from k (c ∷ cs) = by_class c (refused 5 k) (λ (x : Cell). edge_rule_from (suc k) cs) (refused 6 k)

unfoldable pub edge_rule : List Class → Answer
edge_rule cs = edge_rule_from 0 cs

-- the cells of classes. A narrow or a wide interval is refused before its cell is asked for
unfoldable pub cells_of_classes : List Class → List Cell
cells_of_classes [] = []
cells_of_classes (c ∷ cs) = by_class c (cells_of_classes cs) (λ (x : Cell). x ∷ cells_of_classes cs) (cells_of_classes cs)

-- the cells of a stream of intervals
unfoldable pub cells_read : Profile → List ℕ → List Cell
cells_read p ds = cells_of_classes (classes_of p ds)

-- A class is narrow, or read as a cell, or wide: what holds in each of these cases holds of every class. Rests on no
-- axiom.
use Rattle.std.proofs.Common.{◌≡◌, ℕ, suc, ◌≤◌, true, cond, eqb, List, [], ◌∷◌, get_or, sym, refl, ap, ◌∙◌, arith}
use mathlib.Core.Bool.{false≢true}
use native.Mathlib.Decide.{dec_lt}
use Rattle.timing.specs.Class.{is_cell, class_number}
use Rattle.timing.specs.declared.Class.{Class}
use Rattle.timing.specs.declared.Class.TheVariants.{Narrow, Two, Three, Four, Wide}
use Rattle.symbols.specs.Reading.{units}
use Rattle.symbols.specs.declared.Cell.{Cell}
use Rattle.symbols.specs.declared.Cell.TheVariants.{Short, Medium, Long}
use Rattle.intervals.specs.Cells.{by_class, edge_rule_from, cells_of_classes}

-- a class that is read as a cell
pub data ReadAs : Class → Cell → Type 0 where
  as_short : ReadAs Two Short
  as_medium : ReadAs Three Medium
  as_long : ReadAs Four Long

-- and which it is
abbrev pub class_of_cell : Cell → Class
class_of_cell Short = Two
class_of_cell Medium = Three
class_of_cell Long = Four

pub cell_is_read : (x : Cell) → ReadAs (class_of_cell x) x
cell_is_read Short = as_short
cell_is_read Medium = as_medium
cell_is_read Long = as_long

pub by_each_class
    : (P : Class → Type 0) → P Narrow → ((c : Class) (x : Cell) → ReadAs c x → P c) → P Wide → (c : Class) → P c
by_each_class P narrow read wide Narrow = narrow
by_each_class P narrow read wide Two = read Two Short as_short
by_each_class P narrow read wide Three = read Three Medium as_medium
by_each_class P narrow read wide Four = read Four Long as_long
by_each_class P narrow read wide Wide = wide

pub by_class_read
    : {A : Type 0} {c : Class} {x : Cell} (narrow : A) (read : Cell → A) (wide : A)
    → ReadAs c x
    → by_class c narrow read wide ≡ read x
by_class_read narrow read wide as_short = refl
by_class_read narrow read wide as_medium = refl
by_class_read narrow read wide as_long = refl

-- ---- by its units

-- the cell of so many units, where a cell has so many
abbrev pub cell_of_units : ℕ → Cell
cell_of_units u = cond (eqb u 2) Short (cond (eqb u 3) Medium Long)

pub units_of_its_cell : (u : ℕ) → 2 ≤ u → u ≤ 4 → units (cell_of_units u) ≡ u
units_of_its_cell u low high =
    elim (dec_lt u 3) [
      | yes l ↦ let two : u ≡ 2 = omega arith in rw two
      | no l ↦
          elim (dec_lt u 4) [
            | yes m ↦ let three : u ≡ 3 = omega arith in rw three
            | no m ↦ let four : u ≡ 4 = omega arith in rw four
          ]
    ]

pub cell_is_read_as : (c : Class) → is_cell c ≡ true → ReadAs c (cell_of_units (class_number c))
cell_is_read_as Narrow h = absurd (false≢true h)
cell_is_read_as Two h = as_short
cell_is_read_as Three h = as_medium
cell_is_read_as Four h = as_long
cell_is_read_as Wide h = absurd (false≢true h)

-- ---- the first of some classes

-- it is read as a cell
pub read_first
    : {c : Class} {x : Cell} (k : ℕ) (cs : List Class)
    → ReadAs c x
    → (edge_rule_from k (c ∷ cs) ≡ edge_rule_from (suc k) cs)
    × (cells_of_classes (c ∷ cs) ≡ x ∷ cells_of_classes cs)
    × (class_number c ≡ units x)
unfolding edge_rule_from cells_of_classes
read_first k cs as_short = (refl, refl, refl)
read_first k cs as_medium = (refl, refl, refl)
read_first k cs as_long = (refl, refl, refl)

-- or none would be accepted
pub fair_first
    : (k : ℕ) (c : Class) (cs : List Class)
    → (edge_rule_from k (c ∷ cs)).number ≡ 0
    → (is_cell c ≡ true) × ((edge_rule_from (suc k) cs).number ≡ 0)
unfolding edge_rule_from
fair_first k Narrow cs h = absurd (omega arith)
fair_first k Two cs h = (refl, h)
fair_first k Three cs h = (refl, h)
fair_first k Four cs h = (refl, h)
fair_first k Wide cs h = absurd (omega arith)

-- ---- by its number

abbrev numbered : ℕ → Class
numbered n = get_or (Narrow ∷ Narrow ∷ Two ∷ Three ∷ Four ∷ []) n Wide

its_number : (c : Class) → numbered (class_number c) ≡ c
its_number Narrow = refl
its_number Two = refl
its_number Three = refl
its_number Four = refl
its_number Wide = refl

pub same_number : (c d : Class) → class_number c ≡ class_number d → c ≡ d
same_number c d h = sym (its_number c) ∙ ap numbered h ∙ its_number d

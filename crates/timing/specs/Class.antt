-- Document 01, "Profile", and document 02, (ix): the class of an interval, and of each interval of a list. No lemmas
-- here. A list is classed from its first interval on, by a cursor that holds what the class of the next interval depends
-- on: the edges of the windows, and whether the interval before was of class 2.
-- An interval that equals an edge belongs above it (house rule for ties).
use Rattle.std.specs.Prelude.{ℕ, ◌≤◌, Bool, true, false, cond, List, [], ◌∷◌, nat_lt}
use Rattle.refusal.specs.Answer.{Answer, accepted, first_refusal}
use Rattle.timing.specs.Profile.{profile_rule}
use Rattle.timing.specs.declared.Profile.{Profile}
use Rattle.timing.specs.declared.Bounds.{Bounds}
use Rattle.timing.specs.declared.Class.{Class}
use Rattle.timing.specs.declared.cursor.Cursor.{Cursor}
use Rattle.timing.specs.declared.cursor.Classed.{Classed}
use Rattle.timing.specs.declared.Class.TheVariants.{Narrow, Two, Three, Four, Wide}

-- where the classing stands behind an interval of class 2, or of any other: B23 and B34 are pairs, one after a class 2
-- interval, one after any other
unfoldable pub cursor_of : Profile → Bool → Cursor
cursor_of p two =
    record { min = p.min; bounds = cond two p.short p.long; rpt = p.rpt; short = p.short; long = p.long }

-- before the first interval of a list the previous counts as class 2
unfoldable pub at_start : Profile → Cursor
at_start p = cursor_of p true

-- below Min narrow; then below B23 class 2; below B34 class 3; below Rpt class 4; else wide
unfoldable pub class_in : Cursor → ℕ → Class
class_in c d =
    cond (nat_lt d c.min.0) Narrow
    (cond (nat_lt d c.bounds.b23.0) Two
    (cond (nat_lt d c.bounds.b34.0) Three
    (cond (nat_lt d c.rpt.0) Four
    Wide)))

-- a class that is read as a cell
abbrev pub is_cell : Class → Bool
is_cell Narrow = false
is_cell Two = true
is_cell Three = true
is_cell Four = true
is_cell Wide = false

-- class 2
abbrev pub is_two : Class → Bool
is_two Narrow = false
is_two Two = true
is_two Three = false
is_two Four = false
is_two Wide = false

-- no edge is below the one before it
pub record Climbs (low : ℕ) (b : Bounds) (high : ℕ) : Type 0 where
  pub two : low ≤ b.b23.0
  pub three : b.b23.0 ≤ b.b34.0
  pub four : b.b34.0 ≤ high

-- after either kind, as in every profile that is true
pub record Ascending (c : Cursor) : Type 0 where
  pub now : Climbs c.min.0 c.bounds c.rpt.0
  pub short : Climbs c.min.0 c.short c.rpt.0
  pub long : Climbs c.min.0 c.long c.rpt.0

-- where the classing stands behind an interval that is of class 2, or is not
unfoldable pub behind : Cursor → Bool → Cursor
behind c two =
    record { min = c.min; bounds = cond two c.short c.long; rpt = c.rpt; short = c.short; long = c.long }

-- after an interval: what counts is its class as read; narrow and wide are not class 2
unfoldable pub cursor_past : Cursor → ℕ → Cursor
cursor_past c d = behind c (is_two (class_in c d))

-- one interval more
abbrev pub classed : Cursor → ℕ → Classed
classed c d = record { class = class_in c d; next = cursor_past c d }

-- the class of each interval of a list, from where the classing stands on
unfoldable pub classes_from : Cursor → List ℕ → List Class
classes_from c [] = []
classes_from c (d ∷ ds) = class_in c d ∷ classes_from (cursor_past c d) ds

-- and where it stands after them
unfoldable pub cursor_after : Cursor → List ℕ → Cursor
cursor_after c [] = c
cursor_after c (d ∷ ds) = cursor_after (cursor_past c d) ds

-- whether the last of some classes is 2; of none, whether the one before them is
unfoldable pub ends_in_two : Bool → List Class → Bool
ends_in_two two [] = two
ends_in_two two (c ∷ cs) = ends_in_two (is_two c) cs

-- the class of each interval of a list
unfoldable pub classes_of : Profile → List ℕ → List Class
classes_of p ds = classes_from (at_start p) ds

-- the class of one interval by itself, told whether the one before was of class 2
unfoldable pub class_of : Profile → Bool → ℕ → Class
class_of p two d = class_in (cursor_of p two) d

-- the number of a class: 1 for narrow and 5 for wide, which the paper does not number
abbrev pub class_number : Class → ℕ
class_number Narrow = 1
class_number Two = 2
class_number Three = 3
class_number Four = 4
class_number Wide = 5

-- the class operation: 1, 2, then the class
unfoldable pub class_rule : Profile → Bool → ℕ → Answer
class_rule p two d = first_refusal (profile_rule p) (accepted (class_number (class_of p two d)))

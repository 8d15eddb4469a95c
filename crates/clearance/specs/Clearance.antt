-- Document 02, (vi): how far an interval is inside its window, and the least of it over a list. No lemmas here.
-- The most half clocks by which an interval could move either way and keep its class (`IsClearance`) are the smaller of
-- the ways to the two edges of its window (`clearance_in`; `Claims` says that the two are one).
use Rattle.std.specs.Prelude.{◌≡◌, ℕ, suc, ◌+◌, ◌-◌, ◌≤◌, min, Bool, List, [], ◌∷◌}
use Rattle.lists.specs.Span.{least}
use Rattle.timing.specs.Class.{cursor_of, at_start, class_in, cursor_past}
use Rattle.timing.specs.declared.Profile.{Profile}
use Rattle.timing.specs.declared.Class.{Class}
use Rattle.timing.specs.declared.Class.TheVariants.{Narrow, Two, Three, Four, Wide}
use Rattle.timing.specs.declared.cursor.Cursor.{Cursor}

-- ---- what it means

-- moved by up to e half clocks either way, the next interval keeps its class
abbrev pub KeepsWithin : Cursor → ℕ → ℕ → Type 0
KeepsWithin c d e = (moved : ℕ) → moved ≤ d + e → d ≤ moved + e → class_in c moved ≡ class_in c d

-- e is the most by which it could move: by one more, some way, it does not keep its class
pub record MostKept (c : Cursor) (d e : ℕ) : Type 0 where
  pub keeps : KeepsWithin c d e
  pub no_more : KeepsWithin c d (suc e) → ⊥

-- that number for classes 2, 3 and 4; 0 for narrow and wide
abbrev pub ClearanceBy : Class → Cursor → ℕ → ℕ → Type 0
ClearanceBy Narrow c d e = e ≡ 0
ClearanceBy Two c d e = MostKept c d e
ClearanceBy Three c d e = MostKept c d e
ClearanceBy Four c d e = MostKept c d e
ClearanceBy Wide c d e = e ≡ 0

unfoldable pub IsClearance : Cursor → ℕ → ℕ → Type 0
IsClearance c d e = ClearanceBy (class_in c d) c d e

-- ---- its formula

-- a window goes from one edge up to the next: an interval may be as short as the edge below, but must be shorter than
-- the edge above
abbrev pub in_window : ℕ → ℕ → ℕ → ℕ
in_window from to d = min (d - from) (to - 1 - d)

abbrev pub clearance_by : Class → Cursor → ℕ → ℕ
clearance_by Narrow c d = 0
clearance_by Two c d = in_window c.min.0 c.bounds.b23.0 d
clearance_by Three c d = in_window c.bounds.b23.0 c.bounds.b34.0 d
clearance_by Four c d = in_window c.bounds.b34.0 c.rpt.0 d
clearance_by Wide c d = 0

-- of the next interval, where the classing stands
unfoldable pub clearance_in : Cursor → ℕ → ℕ
clearance_in c d = clearance_by (class_in c d) c d

-- ---- intervals of a list

-- of each interval of a list, from where the classing stands on
unfoldable pub clearances_from : Cursor → List ℕ → List ℕ
clearances_from c [] = []
clearances_from c (d ∷ ds) = clearance_in c d ∷ clearances_from (cursor_past c d) ds

-- the least of them
unfoldable pub least_from : Cursor → List ℕ → ℕ
least_from c ds = least (clearances_from c ds)

-- of one interval by itself, told whether the one before was of class 2
unfoldable pub clearance_of : Profile → Bool → ℕ → ℕ
clearance_of p two d = clearance_in (cursor_of p two) d

-- the least over a whole list
unfoldable pub least_clearance : Profile → List ℕ → ℕ
least_clearance p ds = least_from (at_start p) ds

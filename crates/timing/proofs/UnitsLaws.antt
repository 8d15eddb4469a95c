-- The units of a list's intervals, from one interval to the next, as its classes go; and that they are the class of an
-- interval that is a cell. Rests on no axiom.
use Rattle.std.proofs.Common.{◌≡◌, ℕ, suc, ◌<◌, ◌≤◌, true, leb, List, [], ◌∷◌, ◌++◌, length, get_or, drop, refl, ap, arith, drop-cons}
use Rattle.lists.proofs.BoolLaws.{one_at_most}
use Rattle.timing.specs.Class.{class_in, is_cell, class_number, cursor_past, cursor_after}
use Rattle.timing.specs.Class.{Ascending}
use Rattle.timing.specs.machine.Edges.{units_in, units_from}
use Rattle.timing.specs.declared.cursor.Cursor.{Cursor}
use Rattle.timing.proofs.EdgeLaws.{by_edges}

module _ (c : Cursor) (d : ℕ) where
  pub units_in_range : (2 ≤ units_in c d) × (units_in c d ≤ 4)
  unfolding units_in
  units_in_range =
      (omega arith, omega (arith, one_at_most (leb c.bounds.b23.0 d), one_at_most (leb c.bounds.b34.0 d)))

  pub units_of_cell : Ascending c → is_cell (class_in c d) ≡ true → units_in c d ≡ class_number (class_in c d)
  unfolding units_in
  units_of_cell up cell = (by_edges c d up).1 cell

pub units_none : (c : Cursor) → units_from c [] ≡ []
unfolding units_from
units_none c = refl

pub units-cons
    : (c : Cursor) (d : ℕ) (ds : List ℕ) → units_from c (d ∷ ds) ≡ units_in c d ∷ units_from (cursor_past c d) ds
unfolding units_from
units-cons c d ds = refl

pub units_count : (c : Cursor) (ds : List ℕ) → length (units_from c ds) ≡ length ds
unfolding units_from
units_count c [] = refl
units_count c (d ∷ ds) = ap suc (units_count (cursor_past c d) ds)

pub units-append
    : (c : Cursor) (ds es : List ℕ) → units_from c (ds ++ es) ≡ units_from c ds ++ units_from (cursor_after c ds) es
unfolding units_from cursor_after
units-append c [] es = refl
units-append c (d ∷ ds) es = ap (λ (us : List ℕ). units_in c d ∷ us) (units-append (cursor_past c d) ds es)

-- what is left from a place on
module _ (c : Cursor) (ds : List ℕ) (k : ℕ) (inside : k < length ds) where
  abbrev d : ℕ
  d = get_or ds k 0

  pub units_here : units_from c (drop k ds) ≡ units_in c d ∷ units_from (cursor_past c d) (drop (suc k) ds)
  unfolding units_from
  units_here = rw (drop-cons ds k 0 inside)

  pub cursor_here : cursor_after c (drop k ds) ≡ cursor_after (cursor_past c d) (drop (suc k) ds)
  unfolding cursor_after
  cursor_here = rw (drop-cons ds k 0 inside)

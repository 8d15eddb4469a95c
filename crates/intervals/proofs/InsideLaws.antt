-- An interval is a cell where it is not below Min and below Rpt: the other edges stand between them, and neither of the
-- two changes along a list. By induction on the list. Rests on no axiom.
use Rattle.std.proofs.Common.{◌≡◌, ℕ, suc, ◌+◌, ◌-◌, ◌%◌, ◌^◌, ◌<◌, ◌≤◌, max, true, ◌&&◌, ltb, leb, List, [], ◌∷◌, ◌++◌, length, take, drop, sym, refl, ap, ◌∙◌, ap₂, arith, length-drop, take-append-drop, length-take-le, drop-drop, ltb-true, le-ltb, lt-ltb, le-leb, leb-true}
use native.Mathlib.Decide.{dec_lt}
use borrow.Author.Tests.{lt-leb}
use Rattle.lists.specs.Place.{everywhere}
use Rattle.lists.proofs.BoolLaws.{both}
use Rattle.refusal.specs.Answer.{refused}
use Rattle.timing.specs.Class.{class_in, is_cell, behind, cursor_past, classes_from, Ascending}
use Rattle.timing.specs.declared.cursor.Cursor.{Cursor}
use Rattle.timing.proofs.ClassLaws.{classes_none, classes_cons, below_min_is_narrow, from_rpt_is_wide}
use Rattle.timing.proofs.EdgeLaws.{by_edges, ascending_past}
use Rattle.intervals.specs.Cells.{edge_rule_from}
use Rattle.intervals.specs.machine.Inside.{is_inside, inside_from}
use Rattle.intervals.proofs.CellLaws.{cell_is_read_as, read_first}

-- by the difference from the lower edge, which wraps below it
pub inside_by_difference
    : (low high d r : ℕ)
    → low ≤ high
    → high < 2 ^ 16
    → r < 2 ^ 16
    → (r + low) % 2 ^ 16 ≡ d
    → ltb r (high - low) ≡ is_inside low high d
inside_by_difference low high d r up fits small wraps =
    elim (dec_lt d low) [
      | yes below ↦ rw (lt-leb low d below) (le-ltb r (high - low) (omega arith))
      | no over ↦
          elim (dec_lt d high) [
            | yes below ↦
                rw (le-leb low d (omega arith), lt-ltb d high below) (lt-ltb r (high - low) (omega arith))
            | no above ↦
                rw (le-leb low d (omega arith), le-ltb d high (omega arith)) (le-ltb r (high - low) (omega arith))
          ]
    ]

-- both are below where the greater is
pub both_below : (a b w : ℕ) → ltb (max a b) w ≡ (ltb a w && ltb b w)
both_below a b w =
    elim (dec_lt a w) [
      | yes under ↦
          elim (dec_lt b w) [
            | yes below ↦ rw (lt-ltb a w under, lt-ltb b w below) (lt-ltb (max a b) w (omega arith))
            | no over ↦ rw (lt-ltb a w under, le-ltb b w (omega arith)) (le-ltb (max a b) w (omega arith))
          ]
      | no over ↦ rw (le-ltb a w (omega arith)) (le-ltb (max a b) w (omega arith))
    ]

-- ---- the first of a list

module _ (low high k d : ℕ) (ds : List ℕ) where
  pub below_is_refused : d < low → inside_from low high k (d ∷ ds) ≡ refused 5 k
  unfolding inside_from
  below_is_refused h = rw (lt-ltb d low h)

  pub above_is_refused : low ≤ d → high ≤ d → inside_from low high k (d ∷ ds) ≡ refused 6 k
  unfolding inside_from
  above_is_refused h g = rw (le-ltb d low h, le-ltb d high g)

  pub inside_is_passed : low ≤ d → d < high → inside_from low high k (d ∷ ds) ≡ inside_from low high (suc k) ds
  unfolding inside_from
  inside_is_passed h g = rw (le-ltb d low h, lt-ltb d high g)

-- ---- some that are inside

pub all_inside_are_passed
    : (low high k : ℕ) (ds es : List ℕ)
    → everywhere (is_inside low high) ds ≡ true
    → inside_from low high k (ds ++ es) ≡ inside_from low high (k + length ds) es
unfolding everywhere
all_inside_are_passed low high k [] es h = let none : k + 0 ≡ k = omega arith in rw none
all_inside_are_passed low high k (d ∷ ds) es h =
    let (here, later) = both (is_inside low high d) (everywhere (is_inside low high) ds) h in
    let (over, under) = both (leb low d) (ltb d high) here in
    let place : suc k + length ds ≡ k + suc (length ds) = omega arith in
    inside_is_passed low high k d (ds ++ es) (leb-true low d over) (ltb-true d high under)
    ∙ rw place at (all_inside_are_passed low high (suc k) ds es later)

-- so many at a place of a list
pub some_inside_are_passed
    : (low high from k n : ℕ) (ds : List ℕ)
    → k + n ≤ length ds
    → (ltb 0 (high - low) && everywhere (is_inside low high) (take (k + n - k) (drop k ds))) ≡ true
    → inside_from low high (from + k) (drop k ds) ≡ inside_from low high (from + (k + n)) (drop (k + n) ds)
some_inside_are_passed low high from k n ds room h =
    let many : k + n - k ≡ n = omega arith in
    let here = drop k ds in
    let count : length (take n here) ≡ n = length-take-le n here (rw (length-drop k ds) (omega arith)) in
    let place : from + k + length (take n here) ≡ from + (k + n) = omega arith in
    ap (inside_from low high (from + k)) (sym (take-append-drop n here))
    ∙ all_inside_are_passed low high (from + k) (take n here) (drop n here)
    (rw many at (both (ltb 0 (high - low)) _ h).1)
    ∙ ap₂ (inside_from low high) place (drop-drop n k ds)

-- ---- by the classes

pub inside_is_cell
    : (c : Cursor) (ds : List ℕ)
    → Ascending c
    → everywhere (is_inside c.min.0 c.rpt.0) ds ≡ everywhere is_cell (classes_from c ds)
unfolding everywhere classes_from cursor_past behind
inside_is_cell c [] up = refl
inside_is_cell c (d ∷ ds) up =
    ap₂ ◌&&◌ (by_edges c d up).0 (inside_is_cell (cursor_past c d) ds (ascending_past c d up))

pub edges_by_two
    : (c : Cursor) (ds : List ℕ) (k : ℕ)
    → Ascending c
    → edge_rule_from k (classes_from c ds) ≡ inside_from c.min.0 c.rpt.0 k ds
unfolding edge_rule_from inside_from cursor_past behind
edges_by_two c [] k up = rw (classes_none c)
edges_by_two c (d ∷ ds) k up =
    let low = c.min.0 in
    let high = c.rpt.0 in
    let edges = up.now in
    let later = edges_by_two (cursor_past c d) ds (suc k) (ascending_past c d up) in
    elim (dec_lt d low) [
      | yes below ↦ rw (classes_cons c d ds, below_min_is_narrow c d below, lt-ltb d low below)
      | no over ↦
          elim (dec_lt d high) [
            | yes below ↦
                let told : (leb low d && ltb d high) ≡ true = rw (le-leb low d (omega arith)) (lt-ltb d high below) in
                let cell = cell_is_read_as (class_in c d) (sym (by_edges c d up).0 ∙ told) in
                rw (classes_cons c d ds, le-ltb d low (omega arith), lt-ltb d high below)
                ((read_first k (classes_from (cursor_past c d) ds) cell).0 ∙ later)
            | no above ↦
                rw (
                  classes_cons c d ds,
                  from_rpt_is_wide c d (omega arith) (omega arith) (omega arith) (omega arith),
                  le-ltb d low (omega arith),
                  le-ltb d high (omega arith),
                )
          ]
    ]

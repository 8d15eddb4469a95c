-- Adding rows, and so reports, is commutative and associative: by which rows are empty, and then number by number.
-- Rests on no axiom.
use Prim.Native.Nat.{ℕ}
use mathlib.Core.Path.{◌≡◌, refl, ap, ◌∙◌}
use mathlib.Core.List.{[], ◌∷◌}
use mathlib.Core.Bool.{Bool, true, false, cond, ◌&&◌}
use native.Mathlib.Omega.{arith}
use lib.Dec.{eqb}
use borrow.Author.Tests.{eq-eqb, ne_eqb}
use Rattle.report.specs.Row.{Row, count_in, no_row, add_row, is_overlarge}
use Rattle.report.specs.Report.{Report, add_reports}
use Rattle.report.proofs.RowLaws.{two_empty_rows, first_row_is_empty, second_row_is_empty, no_row_is_empty}
use Rattle.report.proofs.RowLaws.{both_added, by_count, row_fits, fitting_row}

same_row
    : {a b c d e f g h : ℕ}
    → a ≡ e
    → b ≡ f
    → c ≡ g
    → d ≡ h
    → ◌≡◌ {A = Row} (a ∷ b ∷ c ∷ d ∷ []) (e ∷ f ∷ g ∷ h ∷ [])
same_row p q r s = cc

-- two rows added, by whether the first and the second are empty
abbrev sum_by : Bool → Bool → Row → Row → Row
sum_by s t a b = cond s (cond t no_row b) (cond t a (both_added a b))

sum_comm : (s t : Bool) (a b : Row) → sum_by s t a b ≡ sum_by t s b a
sum_comm true true a b = refl
sum_comm true false a b = refl
sum_comm false true a b = refl
sum_comm false false a b = same_row (omega arith) (omega arith) (omega arith) (omega arith)

sum_assoc : (s t u : Bool) (a b c : Row) → sum_by (s && t) u (sum_by s t a b) c ≡ sum_by s (t && u) a (sum_by t u b c)
sum_assoc true true true a b c = refl
sum_assoc true true false a b c = refl
sum_assoc true false true a b c = refl
sum_assoc true false false a b c = refl
sum_assoc false true true a b c = refl
sum_assoc false true false a b c = refl
sum_assoc false false true a b c = refl
sum_assoc false false false a b c = same_row (omega arith) (omega arith) (omega arith) (omega arith)

module _ (a b : Row) where
  pub add_row_comm : add_row a b ≡ add_row b a
  unfolding add_row
  add_row_comm = sum_comm (eqb (count_in a) 0) (eqb (count_in b) 0) a b

  -- a sum is empty only where both rows are
  added_row_is_not_empty : (count_in a ≡ 0 → ⊥) → count_in (add_row a b) ≡ 0 → ⊥
  added_row_is_not_empty e =
      by_count b (λ f. rw (second_row_is_empty a b e f) e) (λ f. rw (no_row_is_empty a b e f) (λ h. e (omega arith)))

  added_row_is_empty : eqb (count_in (add_row a b)) 0 ≡ (eqb (count_in a) 0 && eqb (count_in b) 0)
  added_row_is_empty =
      by_count a (λ e.
      by_count b (λ f. rw (two_empty_rows a b e f, eq-eqb (count_in a) 0 e, eq-eqb (count_in b) 0 f))
      (λ f. rw (first_row_is_empty a b e f, eq-eqb (count_in a) 0 e)))
      (λ e. rw (ne_eqb (count_in (add_row a b)) 0 (added_row_is_not_empty e), ne_eqb (count_in a) 0 e))

pub add_row_assoc : (a b c : Row) → add_row (add_row a b) c ≡ add_row a (add_row b c)
unfolding add_row
add_row_assoc a b c =
    rw (added_row_is_empty a b, added_row_is_empty b c)
    (sum_assoc (eqb (count_in a) 0) (eqb (count_in b) 0) (eqb (count_in c) 0) a b c)

-- ---- reports, row by row

pub same_report
    : {a b c d e f g h i j : Row}
    → a ≡ f
    → b ≡ g
    → c ≡ h
    → d ≡ i
    → e ≡ j
    → ◌≡◌ {A = Report} (a ∷ b ∷ c ∷ d ∷ e ∷ []) (f ∷ g ∷ h ∷ i ∷ j ∷ [])
same_report p q r s t = cc

pub add_reports_comm : (a b : Report) → add_reports a b ≡ add_reports b a
unfolding add_reports
add_reports_comm a b =
    same_report (add_row_comm _ _) (add_row_comm _ _) (add_row_comm _ _) (add_row_comm _ _) (add_row_comm _ _)

pub add_reports_assoc : (a b c : Report) → add_reports (add_reports a b) c ≡ add_reports a (add_reports b c)
unfolding add_reports
add_reports_assoc a b c =
    same_report (add_row_assoc _ _ _) (add_row_assoc _ _ _) (add_row_assoc _ _ _) (add_row_assoc _ _ _)
    (add_row_assoc _ _ _)

-- ---- what fits

-- a part of a sum that fits, fits
part_fits : (a b : Row) → (count_in b ≡ 0 → ⊥) → is_overlarge (add_row a b) ≡ false → is_overlarge b ≡ false
part_fits a b f fits =
    by_count a (λ e. cc (first_row_is_empty a b e f)) (λ e.
    let both = fitting_row (both_added a b) (cc (no_row_is_empty a b e f)) in row_fits b (omega arith) (omega arith))

pub later_rows_fit
    : (a b c : Row)
    → is_overlarge (add_row a b) ≡ false
    → is_overlarge (add_row (add_row a b) c) ≡ false
    → is_overlarge (add_row b c) ≡ false
later_rows_fit a b c first whole =
    by_count b (λ f.
    by_count c (λ g. ap is_overlarge (two_empty_rows b c f g) ∙ row_fits no_row (omega arith) (omega arith))
    (λ g. ap is_overlarge (first_row_is_empty b c f g) ∙ part_fits (add_row a b) c g whole))
    (λ f. part_fits a (add_row b c) (added_row_is_not_empty b c f) (cc (add_row_assoc a b c)))

-- The report of lists joined is their reports added, since the intervals of a class in both are those in the first and
-- then those in the second. Rests on no axiom.
use Prim.Native.Nat.{ℕ, ◌≤◌}
use mathlib.Core.Path.{◌≡◌, refl, ap, ◌∙◌}
use mathlib.Core.Bool.{Bool, true, false, cond}
use mathlib.Core.List.{List, [], ◌∷◌, ◌++◌}
use native.Mathlib.Omega.{arith}
use lib.Dec.{eqb}
use lib.ListN.{length}
use Rattle.timing.specs.Class.{classes_from, cursor_after, class_number, at_start}
use Rattle.timing.specs.declared.Profile.{Profile}
use Rattle.timing.specs.declared.Class.{Class}
use Rattle.timing.specs.declared.Class.TheVariants.{Narrow, Two, Three, Four, Wide}
use Rattle.timing.specs.declared.cursor.Cursor.{Cursor}
use Rattle.timing.proofs.ClassLaws.{classes_none, classes_count, classes_append, classes_from_start}
use Rattle.report.specs.Row.{row_of, add_row}
use Rattle.report.specs.Report.{of_class, report_by, report_of, report_from, add_reports, no_report}
use Rattle.report.proofs.RowLaws.{row_of_none, row_of-append}
use Rattle.report.proofs.AddLaws.{same_report}

-- ---- the intervals of a class

pub of_class-append
    : (c : Class) (cs es : List Class) (ds fs : List ℕ)
    → length cs ≡ length ds
    → of_class c (cs ++ es) (ds ++ fs) ≡ of_class c cs ds ++ of_class c es fs
unfolding of_class
of_class-append c [] es [] fs h = refl
of_class-append c [] es (d ∷ ds) fs h = absurd (omega arith)
of_class-append c (e ∷ cs) es [] fs h = absurd (omega arith)
of_class-append c (e ∷ cs) es (d ∷ ds) fs h =
    by_test (eqb (class_number c) (class_number e)) _ _ _ (of_class-append c cs es ds fs (omega arith))
  where
    by_test
        : (t : Bool) (xs ys zs : List ℕ) → xs ≡ ys ++ zs → cond t (d ∷ xs) xs ≡ cond t (d ∷ ys) ys ++ zs
    by_test true xs ys zs q = ap (λ (l : List ℕ). d ∷ l) q
    by_test false xs ys zs q = q

-- ---- lists joined

pub report_by-append
    : (cs es : List Class) (ds fs : List ℕ)
    → length cs ≡ length ds
    → report_by (cs ++ es) (ds ++ fs) ≡ add_reports (report_by cs ds) (report_by es fs)
unfolding report_by add_reports
report_by-append cs es ds fs h = same_report (row Narrow) (row Two) (row Three) (row Four) (row Wide)
  where
    row
        : (c : Class)
        → row_of (of_class c (cs ++ es) (ds ++ fs)) ≡ add_row (row_of (of_class c cs ds)) (row_of (of_class c es fs))
    row c = ap row_of (of_class-append c cs es ds fs h) ∙ row_of-append (of_class c cs ds) (of_class c es fs)

pub report_from-append
    : (cursor : Cursor) (ds es : List ℕ)
    → report_from cursor (ds ++ es) ≡ add_reports (report_from cursor ds) (report_from (cursor_after cursor ds) es)
unfolding report_from
report_from-append cursor ds es =
    rw (classes_append cursor ds es) (report_by-append (classes_from cursor ds) _ ds es (classes_count cursor ds))

pub report_from_start : (p : Profile) (ds : List ℕ) → report_of p ds ≡ report_from (at_start p) ds
unfolding report_of report_from
report_from_start p ds = cc (classes_from_start p ds)

-- the report of no intervals
pub report_of_none : (cursor : Cursor) → report_from cursor [] ≡ no_report
unfolding report_from report_by of_class
report_of_none cursor = rw (classes_none cursor, row_of_none)

-- ---- the place of a class's row

pub class_number_range : (c : Class) → (1 ≤ class_number c) × (class_number c ≤ 5)
class_number_range Narrow = (omega arith, omega arith)
class_number_range Two = (omega arith, omega arith)
class_number_range Three = (omega arith, omega arith)
class_number_range Four = (omega arith, omega arith)
class_number_range Wide = (omega arith, omega arith)

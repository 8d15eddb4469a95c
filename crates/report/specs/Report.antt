-- Document 02, (i): how worn a drive is. The report of a list of intervals has a row for each class, over the intervals
-- of that class, and two reports are added row by row. No lemmas here.
use Rattle.std.specs.Prelude.{ℕ, cond, List, [], ◌∷◌, eqb, ltb, length, get_or}
use Rattle.lists.specs.Place.{anywhere}
use Rattle.refusal.specs.Answer.{Answer, accepted, refuse_if, first_refusal}
use Rattle.timing.specs.Profile.{profile_rule}
use Rattle.timing.specs.Class.{classes_from, classes_of, class_number}
use Rattle.timing.specs.declared.Profile.{Profile}
use Rattle.timing.specs.declared.Class.{Class}
use Rattle.timing.specs.declared.Class.TheVariants.{Narrow, Two, Three, Four, Wide}
use Rattle.timing.specs.declared.cursor.Cursor.{Cursor}
use Rattle.report.specs.Row.{Row, row_of, no_row, add_row, is_overlarge}

-- five rows
abbrev pub Report : Type 0
Report = List Row

abbrev pub row_at : Report → ℕ → Row
row_at report k = get_or report k []

-- ---- the report of a list

-- a row for each of the classes narrow, 2, 3, 4, wide, in that order
abbrev pub rows_by : (Class → Row) → Report
rows_by row = row Narrow ∷ row Two ∷ row Three ∷ row Four ∷ row Wide ∷ []

-- of intervals that have their classes beside them, those of one class
unfoldable pub of_class : Class → List Class → List ℕ → List ℕ
of_class c [] ds = []
of_class c (e ∷ es) [] = []
of_class c (e ∷ es) (d ∷ ds) =
    cond (eqb (class_number c) (class_number e)) (d ∷ of_class c es ds) (of_class c es ds)

-- the report of intervals that have their classes beside them
unfoldable pub report_by : List Class → List ℕ → Report
report_by cs ds = rows_by (λ (c : Class). row_of (of_class c cs ds))

-- the report of a list
unfoldable pub report_of : Profile → List ℕ → Report
report_of p ds = report_by (classes_of p ds) ds

-- the report of intervals that stand behind others, from where the classing stands on
unfoldable pub report_from : Cursor → List ℕ → Report
report_from cursor ds = report_by (classes_from cursor ds) ds

-- ---- two reports added

unfoldable pub add_reports : Report → Report → Report
add_reports a b =
    add_row (row_at a 0) (row_at b 0)
    ∷ add_row (row_at a 1) (row_at b 1)
    ∷ add_row (row_at a 2) (row_at b 2)
    ∷ add_row (row_at a 3) (row_at b 3)
    ∷ add_row (row_at a 4) (row_at b 4)
    ∷ []

-- ---- what is turned away, and what is handed back then

abbrev pub no_report : Report
no_report = no_row ∷ no_row ∷ no_row ∷ no_row ∷ no_row ∷ []

-- a report that was asked for: nothing but zeros on a refusal
abbrev pub if_accepted : Answer → Report → Report
if_accepted answer report = cond (eqb answer.number 0) report no_report

-- 1, 2, then 4 for an overlong list
unfoldable pub report_rule : Profile → List ℕ → Answer
report_rule p ds = first_refusal (profile_rule p) (refuse_if (ltb 51202 (length ds)) 4 0 (accepted 0))

unfoldable pub reported : Profile → List ℕ → Report
reported p ds = if_accepted (report_rule p ds) (report_of p ds)

-- 4 when a count or sum would not fit in 64 bits, and nothing else
unfoldable pub add_rule : Report → Report → Answer
add_rule a b = refuse_if (anywhere is_overlarge (add_reports a b)) 4 0 (accepted 0)

unfoldable pub added : Report → Report → Report
added a b = if_accepted (add_rule a b) (add_reports a b)

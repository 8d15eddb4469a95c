-- Why the claim on reports holds: the row of lists joined is their rows added, adding goes row by row, and every
-- interval is of one class. That the second list may be classed as a list of its own is the one place that needs the
-- classing to stand as it began. Rests on no axiom.
use Prim.Native.Nat.{ℕ}
use native.Mathlib.Omega.{arith}
use mathlib.Core.Path.{◌≡◌, refl, sym, ap, ap₂, ◌∙◌}
use mathlib.Core.Bool.{true}
use mathlib.Core.List.{List, [], ◌∷◌, ◌++◌, append-nil}
use Rattle.lists.specs.Place.{anywhere, lowest}
use Rattle.lists.specs.Sum.{sum_of}
use Rattle.lists.specs.Span.{least, greatest}
use Rattle.refusal.specs.Answer.{accepted}
use Rattle.timing.specs.Profile.{unset, swing, advance, delay, is_true_short, is_true_long, is_true, profile_rule}
use Rattle.timing.specs.Class.{cursor_of, at_start, class_in, behind, cursor_past, classes_from, ends_in_two, classes_of}
use Rattle.timing.specs.declared.Profile.{Profile}
use Rattle.timing.specs.declared.cursor.Cursor.{Cursor}
use Rattle.timing.proofs.ClassLaws.{classes_from_start, classes_none, classes_length, cursor_starts_anew}
use Rattle.report.specs.Row.{count_in, row_of, add_row}
use Rattle.report.specs.Report.{Report, row_at, of_class, report_by, report_of, report_from, add_reports, add_rule}
use Rattle.report.specs.Report.{report_rule, reported, added}
use Rattle.report.specs.Claims.{all_joined, all_added, AllEndInTwo, apart, Regrouped, DriveReports}
use Rattle.report.proofs.AddLaws.{add_reports_comm, add_reports_assoc, later_rows_fit}
use Rattle.report.proofs.SumLaws.{row_of_sum, row_of_sum_fits, sum_is_accepted, added_if_accepted}
use Rattle.report.proofs.ReportLaws.{report_by-append, report_from-append, report_from_start, report_of_none}
use Rattle.report.proofs.WholeLaws.{counts_add_up, sums_add_up}
use Rattle.report.proofs.SpanLaws.{spanned}
use Rattle.report.proofs.RefusalLaws.{given_if_accepted, zeros_if_refused}

-- ---- no interval

neutral_first : (p : Profile) (ds : List ℕ) → add_reports (report_of p []) (report_of p ds) ≡ report_of p ds
unfolding report_of
neutral_first p ds = rw (classes_from_start p [], classes_none) (sym (report_by-append [] (classes_of p ds) [] ds refl))

-- ---- lists joined

joined
    : (p : Profile) (ds es : List ℕ)
    → ends_in_two true (classes_of p ds) ≡ true
    → report_of p (ds ++ es) ≡ add_reports (report_of p ds) (report_of p es)
joined p ds es two =
    report_from_start p (ds ++ es)
    ∙ report_from-append (at_start p) ds es
    ∙ ap₂ add_reports (sym (report_from_start p ds))
    (ap (λ (c : Cursor). report_from c es) (cursor_starts_anew p ds two) ∙ sym (report_from_start p es))

-- one more of class 2 in the second list than in the lists joined
not_joined
    : report_of apart (120 ∷ 90 ∷ []) ≡ add_reports (report_of apart (120 ∷ [])) (report_of apart (90 ∷ [])) → ⊥
unfolding report_of report_by of_class row_of least greatest sum_of add_reports add_row
    cursor_of at_start class_in behind cursor_past classes_from classes_of
not_joined same =
    let counts : ◌≡◌ {A = ℕ} 0 1 = ap (λ (r : Report). count_in (row_at r 1)) same in
    omega arith

none_joined : (p : Profile) → report_of p [] ≡ all_added p []
unfolding all_added
none_joined p = report_from_start p [] ∙ report_of_none (at_start p)

lists_joined
    : (p : Profile) (lists : List (List ℕ)) → AllEndInTwo p lists → report_of p (all_joined lists) ≡ all_added p lists
unfolding all_joined all_added
lists_joined p [] ends = none_joined p
lists_joined p (ds ∷ []) ends =
    ap (report_of p) (append-nil ds)
    ∙ sym (add_reports_comm (report_of p ds) (all_added p [])
    ∙ ap (λ (r : Report). add_reports r (report_of p ds)) (sym (none_joined p)) ∙ neutral_first p ds)
lists_joined p (ds ∷ es ∷ lists) ends =
    joined p ds (all_joined (es ∷ lists)) ends.0
    ∙ ap (add_reports (report_of p ds)) (lists_joined p (es ∷ lists) ends.1)

-- ---- the operation

module _ (a b c : Report) (first : (add_rule a b).number ≡ 0) (whole : (add_rule (added a b) c).number ≡ 0) where
  later : (add_rule b c).number ≡ 0
  later =
      sum_is_accepted b c
      (λ k h. later_rows_fit (row_at a k) (row_at b k) (row_at c k) (row_of_sum_fits a b k h first)
      (rw (row_of_sum a b k h) (row_of_sum_fits (add_reports a b) c k h (rw (added_if_accepted a b first) at whole))))

  whole_again : (add_rule a (added b c)).number ≡ 0
  unfolding add_rule
  whole_again = cc (added_if_accepted b c later, add_reports_assoc a b c, added_if_accepted a b first)

  associative : Regrouped a b c
  associative =
      record {
        later_accepted = later;
        whole_accepted = whole_again;
        same =
            rw (
              added_if_accepted (added a b) c whole,
              added_if_accepted a (added b c) whole_again,
              added_if_accepted a b first,
              added_if_accepted b c later,
            ) (add_reports_assoc a b c);
      }

apart_is_accepted : profile_rule apart ≡ accepted 0
unfolding anywhere lowest unset swing advance delay is_true_short is_true_long is_true profile_rule
apart_is_accepted = refl

pub drive_reports : DriveReports
unfolding report_of reported add_rule added
drive_reports =
    record {
      given_report = λ p ds. given_if_accepted (report_rule p ds) _;
      given_sum = λ a b. given_if_accepted (add_rule a b) _;
      refused_report = λ p ds. zeros_if_refused (report_rule p ds) _;
      no_sum = λ a b. zeros_if_refused (add_rule a b) _;
      joined_there = report_from-append;
      joined = joined;
      not_joined = (apart_is_accepted, not_joined);
      lists_joined = lists_joined;
      neutral_first = neutral_first;
      neutral_second = λ p ds. add_reports_comm (report_of p ds) (report_of p []) ∙ neutral_first p ds;
      commutative = λ a b. let same = add_reports_comm a b in (cc same, rw same);
      associative = associative;
      counts = λ p ds. counts_add_up (classes_of p ds) ds (classes_length p ds);
      sums = λ p ds. sums_add_up (classes_of p ds) ds (classes_length p ds);
      spanned = spanned;
    }

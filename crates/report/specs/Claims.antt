-- Document 02, (i): what holds of reports, for lists of any length. No lemmas here.
use Rattle.std.specs.Prelude.{ℕ, ◌<◌, ◌≤◌, ◌≡◌, true, List, [], ◌∷◌, ◌++◌, map, length, get_or}
use Rattle.lists.specs.Sum.{sum_of}
use Rattle.lists.specs.Span.{least, greatest}
use Rattle.refusal.specs.Answer.{accepted}
use Rattle.timing.specs.Profile.{profile_rule}
use Rattle.timing.specs.Class.{cursor_after, ends_in_two, classes_of}
use Rattle.timing.specs.declared.Profile.{Profile}
use Rattle.timing.specs.declared.cursor.Cursor.{Cursor}
use Rattle.report.specs.Row.{count_in, sum_in}
use Rattle.report.specs.Report.{Report, report_of, report_from, add_reports, no_report, report_rule, reported, add_rule}
use Rattle.report.specs.Report.{added}

-- the lists of an afternoon joined, and their reports added
unfoldable pub all_joined : List (List ℕ) → List ℕ
all_joined [] = []
all_joined (ds ∷ lists) = ds ++ all_joined lists

unfoldable pub all_added : Profile → List (List ℕ) → Report
all_added p [] = no_report
all_added p (ds ∷ lists) = add_reports (report_of p ds) (all_added p lists)

-- each but the last is empty or ends in class 2
abbrev pub AllEndInTwo : Profile → List (List ℕ) → Type 0
AllEndInTwo p [] = Unit {0}
AllEndInTwo p (ds ∷ []) = Unit {0}
AllEndInTwo p (ds ∷ es ∷ lists) = (ends_in_two true (classes_of p ds) ≡ true) × AllEndInTwo p (es ∷ lists)

-- profile 58 29 0 5 5 36 95 73 120 106 139, whose bounds are far apart
abbrev pub apart : Profile
apart =
    record {
      t1 = record { 0 = 58 };
      t0 = record { 0 = 29 };
      early = record { 0 = 0 };
      normal = record { 0 = 5 };
      late = record { 0 = 5 };
      min = record { 0 = 36 };
      short = record { b23 = record { 0 = 95 }; b34 = record { 0 = 120 } };
      long = record { b23 = record { 0 = 73 }; b34 = record { 0 = 106 } };
      rpt = record { 0 = 139 };
    }

-- two numbers are the least and the greatest of some intervals
pub record Spanned (ds : List ℕ) (low high : ℕ) : Type 0 where
  pub none_below : (k : ℕ) → k < length ds → low ≤ get_or ds k 0
  pub none_above : (k : ℕ) → k < length ds → get_or ds k 0 ≤ high
  pub low_is_there : 0 < length ds → (k : ℕ) × (k < length ds) × (get_or ds k 0 ≡ low)
  pub high_is_there : 0 < length ds → (k : ℕ) × (k < length ds) × (get_or ds k 0 ≡ high)

-- three reports whose sum is accepted in one order, in the other
pub record Regrouped (a b c : Report) : Type 0 where
  pub later_accepted : (add_rule b c).number ≡ 0
  pub whole_accepted : (add_rule a (added b c)).number ≡ 0
  pub same : added (added a b) c ≡ added a (added b c)

pub record DriveReports : Type 0 where
  -- what the entries give is what the sentences below speak of: the report of a list that is accepted, and the sum of
  -- two reports that is; nothing but zeros where they refuse
  pub given_report : (p : Profile) (ds : List ℕ) → (report_rule p ds).number ≡ 0 → reported p ds ≡ report_of p ds
  pub given_sum : (a b : Report) → (add_rule a b).number ≡ 0 → added a b ≡ add_reports a b
  pub refused_report : (p : Profile) (ds : List ℕ) → ((report_rule p ds).number ≡ 0 → ⊥) → reported p ds ≡ no_report
  pub no_sum : (a b : Report) → ((add_rule a b).number ≡ 0 → ⊥) → added a b ≡ no_report
  -- adding the reports of two lists gives the report of the lists joined: the second classed from where the classing of
  -- the first ends
  pub joined_there
      : (cursor : Cursor) (ds es : List ℕ)
      → report_from cursor (ds ++ es) ≡ add_reports (report_from cursor ds) (report_from (cursor_after cursor ds) es)
  -- and classed as a list of its own, where the first list is empty or ends in class 2
  pub joined
      : (p : Profile) (ds es : List ℕ)
      → ends_in_two true (classes_of p ds) ≡ true
      → report_of p (ds ++ es) ≡ add_reports (report_of p ds) (report_of p es)
  -- and not elsewhere: behind 120, of class 4, the interval 90 is of class 3, and as a list of its own of class 2
  pub not_joined
      : (profile_rule apart ≡ accepted 0)
      × (report_of apart (120 ∷ 90 ∷ []) ≡ add_reports (report_of apart (120 ∷ [])) (report_of apart (90 ∷ [])) → ⊥)
  -- any number of lists
  pub lists_joined
      : (p : Profile) (lists : List (List ℕ)) → AllEndInTwo p lists → report_of p (all_joined lists) ≡ all_added p lists
  -- the report of no interval adds nothing
  pub neutral_first : (p : Profile) (ds : List ℕ) → add_reports (report_of p []) (report_of p ds) ≡ report_of p ds
  pub neutral_second : (p : Profile) (ds : List ℕ) → add_reports (report_of p ds) (report_of p []) ≡ report_of p ds
  -- any two reports, also with what is turned away
  pub commutative : (a b : Report) → (add_rule a b ≡ add_rule b a) × (added a b ≡ added b a)
  -- any three, where nothing overflows
  pub associative
      : (a b c : Report) → (add_rule a b).number ≡ 0 → (add_rule (added a b) c).number ≡ 0 → Regrouped a b c
  -- counts and sums are those of the whole list
  pub counts : (p : Profile) (ds : List ℕ) → sum_of (map count_in (report_of p ds)) ≡ length ds
  pub sums : (p : Profile) (ds : List ℕ) → sum_of (map sum_in (report_of p ds)) ≡ sum_of ds
  -- least and greatest are what they say
  pub spanned : (ds : List ℕ) → Spanned ds (least ds) (greatest ds)

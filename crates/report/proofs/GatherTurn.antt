-- The loop of `list::gather`: the rows are those of what each class has of the intervals passed, and an interval more
-- renews the row of its class. No row comes near 64 bits, since a list has at most 51,202 intervals of 16 bits. Rests
-- on no axiom.
use Prim.Native.Nat.{ℕ, suc, ◌+◌, ◌-◌, ◌≤◌, ◌<◌}
use mathlib.Core.Path.{◌≡◌, refl, sym, ap, ◌∙◌}
use mathlib.Core.Bool.{Bool, true, false, cond}
use mathlib.Core.List.{List, [], ◌∷◌, ◌++◌, append-nil, append_assoc}
use native.Mathlib.Numerals.{add-one}
use native.Mathlib.Omega.{arith}
use lib.Dec.{eqb}
use lib.ListN.{length, get_or, set, drop, drop_of_length-le, length-append}
use lib.Seq.{drop-cons}
use Rattle.lists.specs.Sum.{sum_of}
use Rattle.lists.proofs.SumLaws.{sum_of-append, sum_of_small}
use Rattle.timing.specs.Class.{class_in, classes_from, cursor_past, classed, class_number}
use Rattle.timing.specs.declared.Class.{Class}
use Rattle.timing.specs.declared.Class.TheVariants.{Narrow, Two, Three, Four, Wide}
use Rattle.timing.specs.declared.cursor.Cursor.{Cursor}
use Rattle.timing.specs.declared.cursor.Classed.{Classed}
use Rattle.timing.proofs.ClassLaws.{classes_none, classes_here}
use Rattle.report.specs.Row.{row_of, add_row, is_overlarge}
use Rattle.report.specs.Report.{Report, row_at, rows_by, of_class, report_by, report_from, no_report}
use Rattle.report.proofs.RowLaws.{row_of_none, row_of-append, row_fits}
use Rattle.report.proofs.AddLaws.{same_report}
use Rattle.report.proofs.WholeLaws.{of_class_at_most}

-- what a class has of the intervals from a cursor on
abbrev pub has : Cursor → List ℕ → Class → List ℕ
has cursor ds c = of_class c (classes_from cursor ds) ds

-- the rows after the first k intervals, when the classing stands at the cursor
pub record Gathered (start : Cursor) (ds : List ℕ) (cursor : Cursor) (rows : Report) (k : ℕ) : Type 0 where
  pub seen : Class → List ℕ
  pub rows_are : rows ≡ rows_by (λ (c : Class). row_of (seen c))
  pub whole : (c : Class) → seen c ++ has cursor (drop k ds) c ≡ has start ds c

pub nothing_gathered : (start : Cursor) (ds : List ℕ) → Gathered start ds start no_report 0
nothing_gathered start ds = record { seen = λ c. []; rows_are = rw row_of_none; whole = λ c. refl }

-- a report with the row of class e renewed by an interval d
abbrev pub renewed : Report → Class → ℕ → Report
renewed rows e d = set rows (class_number e - 1) (add_row (row_at rows (class_number e - 1)) (row_of (d ∷ [])))

-- where an interval d of class e joins what the classes have
abbrev joining : Class → ℕ → Class → List ℕ
joining e d c = cond (eqb (class_number c) (class_number e)) (d ∷ []) []

joining_itself : (d : ℕ) (e : Class) → joining e d e ≡ (d ∷ [])
joining_itself d Narrow = refl
joining_itself d Two = refl
joining_itself d Three = refl
joining_itself d Four = refl
joining_itself d Wide = refl

row_of_class
    : (seen : Class → List ℕ) (e : Class)
    → row_at (rows_by (λ (c : Class). row_of (seen c))) (class_number e - 1) ≡ row_of (seen e)
row_of_class seen Narrow = refl
row_of_class seen Two = refl
row_of_class seen Three = refl
row_of_class seen Four = refl
row_of_class seen Wide = refl

module _ (seen : Class → List ℕ) (d : ℕ) where
  more : (c : Class) → row_of (seen c ++ (d ∷ [])) ≡ add_row (row_of (seen c)) (row_of (d ∷ []))
  more c = row_of-append (seen c) (d ∷ [])

  same : (c : Class) → row_of (seen c ++ []) ≡ row_of (seen c)
  same c = cc (append-nil (seen c))

  one_more_renews
      : (e : Class)
      → rows_by (λ (c : Class). row_of (seen c ++ joining e d c)) ≡ renewed (rows_by (λ (c : Class). row_of (seen c))) e d
  one_more_renews Narrow = same_report (more Narrow) (same Two) (same Three) (same Four) (same Wide)
  one_more_renews Two = same_report (same Narrow) (more Two) (same Three) (same Four) (same Wide)
  one_more_renews Three = same_report (same Narrow) (same Two) (more Three) (same Four) (same Wide)
  one_more_renews Four = same_report (same Narrow) (same Two) (same Three) (more Four) (same Wide)
  one_more_renews Wide = same_report (same Narrow) (same Two) (same Three) (same Four) (more Wide)

joins : (t : Bool) (d : ℕ) (rest : List ℕ) → cond t (d ∷ rest) rest ≡ cond t (d ∷ []) [] ++ rest
joins true d rest = refl
joins false d rest = refl

module _
    {start : Cursor} {ds : List ℕ} {cursor : Cursor} {rows : Report} {k : ℕ} (g : Gathered start ds cursor rows k)
  where
    abbrev d : ℕ
    d = get_or ds k 0

    abbrev e : Class
    e = class_in cursor d

    has_here
        : k < length ds → (c : Class)
        → has cursor (drop k ds) c ≡ joining e d c ++ has (cursor_past cursor d) (drop (suc k) ds) c
    unfolding of_class
    has_here h c = cc (classes_here cursor ds k h, drop-cons ds k 0 h, joins _ d _)

    whole_here
        : k < length ds
        → (c : Class)
        → (g.seen c ++ joining e d c) ++ has (cursor_past cursor d) (drop (suc k) ds) c ≡ has start ds c
    whole_here h c = cc (append_assoc (g.seen c) (joining e d c) _, has_here h c, g.whole c)

    pub gathered_on : k < length ds → Gathered start ds (cursor_past cursor d) (renewed rows e d) (suc k)
    gathered_on h =
        record {
          seen = λ c. g.seen c ++ joining e d c;
          rows_are = cc (one_more_renews g.seen d e);
          whole = whole_here h;
        }

    -- the same after the step and the renewal of a row
    pub gathered_by_step
        : {s : Classed} {r : Report}
        → k < length ds
        → s ≡ classed cursor d
        → r ≡ renewed rows s.class d
        → Gathered start ds s.next r (k + 1)
    gathered_by_step h step rows_now = rw (rows_now, step, add-one k) (gathered_on h)

    pub gathered_all : length ds ≤ k → rows ≡ report_from start ds
    unfolding report_from report_by of_class
    gathered_all h = cc (same_report (row Narrow) (row Two) (row Three) (row Four) (row Wide))
      where
        row : (c : Class) → row_of (g.seen c) ≡ row_of (has start ds c)
        row c =
            ap row_of (sym (append-nil (g.seen c))
            ∙ ap (λ (l : List ℕ). g.seen c ++ l) (sym (rw (drop_of_length-le ds h, classes_none cursor)))
            ∙ g.whole c)

    -- the row of an interval's class, with the interval
    abbrev mine : List ℕ
    mine = g.seen e ++ (d ∷ [])

    mine_first : k < length ds → mine ++ has (cursor_past cursor d) (drop (suc k) ds) e ≡ has start ds e
    mine_first h = cc (joining_itself d e, whole_here h e)

    pub renewed_row_fits
        : {s : Classed}
        → k < length ds
        → length ds ≤ 51202
        → ((i : ℕ) → get_or ds i 0 ≤ 65535)
        → s ≡ classed cursor d
        → is_overlarge (add_row (row_at rows (class_number s.class - 1)) (row_of (d ∷ []))) ≡ false
    unfolding row_of sum_of
    renewed_row_fits h long small step =
        let counts : length mine + _ ≡ length (has start ds e) =
        sym (length-append mine _) ∙ ap length (mine_first h) in
        let sums : sum_of mine + _ ≡ sum_of (has start ds e) = sym (sum_of-append mine _) ∙ ap sum_of (mine_first h) in
        let count = of_class_at_most length (λ d. 1) refl (λ d es. omega arith) e (classes_from start ds) ds in
        let sum = of_class_at_most sum_of (λ d. d) refl (λ d es. refl) e (classes_from start ds) ds in
        let limit = sum_of_small 65535 ds small in
        rw (step, g.rows_are, row_of_class g.seen e)
        (cc (more g.seen d e, row_fits (row_of mine) (omega arith) (omega arith)))

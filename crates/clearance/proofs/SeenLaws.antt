-- Why the extremes of a list tell its least clearance: each interval takes its own from what is left, between the
-- bounds where the classing stands. Those bounds are the same where the pairs are equal. Rests on no axiom.
use Rattle.std.proofs.Common.{◌≡◌, ℕ, suc, ◌<◌, true, List, [], ◌∷◌, ◌++◌, length, get_or, sym, refl, ap, ◌∙◌, ap₂, arith}
use Rattle.lists.specs.Span.{least}
use Rattle.lists.proofs.SpanLaws.{least_of_one, least_of_two}
use Rattle.timing.specs.Class.{behind, cursor_past, cursor_after}
use Rattle.timing.specs.machine.Edges.{is_steady}
use Rattle.timing.specs.declared.cursor.Cursor.{Cursor}
use Rattle.timing.proofs.SteadyLaws.{steady_stays}
use Rattle.clearance.specs.Clearance.{clearances_from, least_from}
use Rattle.clearance.specs.machine.Nearest.{Reachable, none_met, met_with, least_met, alike_from}
use Rattle.clearance.specs.machine.Seen.{seen_past, seen_from}
use Rattle.clearance.specs.declared.extremes.Extremes.{Extremes}
use Rattle.clearance.specs.declared.seen.Seen.{Seen}
use Rattle.clearance.proofs.CursorLaws.{reachable_past}
use Rattle.clearance.proofs.NearestLaws.{met_with_lem, first_met}

-- all are 16-bit numbers
abbrev pub Fit : List ℕ → Type 0
Fit ds = (k : ℕ) → k < length ds → get_or ds k 0 < 65536

fit_later : (d : ℕ) (ds : List ℕ) → Fit (d ∷ ds) → Fit ds
fit_later d ds fits k h = fits (suc k) (omega arith)

abbrev pub seen_at : Extremes → Cursor → Seen
seen_at m c = record { extremes = m; cursor = c }

-- ---- what is left, and the least of all

left_is_met
    : (c : Cursor) (m : Extremes) (ds : List ℕ)
    → Reachable c
    → Fit ds
    → least (least_met c.min.0 c.rpt.0 m ∷ clearances_from c ds)
    ≡ least_met c.min.0 c.rpt.0 (seen_from (seen_at m c) ds).extremes
unfolding clearances_from seen_from seen_past cursor_past behind
left_is_met c m [] reach fits = least_of_one _
left_is_met c m (d ∷ ds) reach fits =
    least_of_two _ _ _
    ∙ ap (λ (x : ℕ). least (x ∷ clearances_from (cursor_past c d) ds)) (sym (met_with_lem c reach d (fits 0 (omega arith)) m))
    ∙ left_is_met (cursor_past c d) (met_with m c.bounds d) ds (reachable_past c d reach) (fit_later d ds fits)

pub least_is_met
    : (c : Cursor) (ds : List ℕ)
    → Reachable c
    → Fit ds
    → 0 < length ds
    → least_met c.min.0 c.rpt.0 (seen_from (seen_at none_met c) ds).extremes ≡ least_from c ds
unfolding least_from clearances_from
least_is_met c [] reach fits some = absurd (omega arith)
least_is_met c (d ∷ ds) reach fits some =
    sym (left_is_met c none_met (d ∷ ds) reach fits)
    ∙ least_of_two _ _ _
    ∙ ap (λ (x : ℕ). least (x ∷ clearances_from (cursor_past c d) ds)) (first_met c d reach)

-- ---- parts of a list

pub seen_append : (s : Seen) (ds es : List ℕ) → seen_from s (ds ++ es) ≡ seen_from (seen_from s ds) es
unfolding seen_from
seen_append s [] es = refl
seen_append s (d ∷ ds) es = seen_append (seen_past s d) ds es

pub cursor_seen : (s : Seen) (ds : List ℕ) → (seen_from s ds).cursor ≡ cursor_after s.cursor ds
unfolding seen_from seen_past cursor_after
cursor_seen s [] = refl
cursor_seen s (d ∷ ds) = cursor_seen (seen_past s d) ds

-- ---- the same bounds for all

pub alike_is_seen
    : (c : Cursor)
    → is_steady c ≡ true
    → (m : Extremes) (ds : List ℕ)
    → alike_from m c.bounds ds ≡ (seen_from (seen_at m c) ds).extremes
unfolding alike_from seen_from seen_past
alike_is_seen c steady m [] = refl
alike_is_seen c steady m (d ∷ ds) =
    alike_is_seen c steady (met_with m c.bounds d) ds
    ∙ ap (λ (e : Cursor). (seen_from (seen_at (met_with m c.bounds d) e) ds).extremes) (sym (steady_stays c steady d))

steady_after : (c : Cursor) → is_steady c ≡ true → (ds : List ℕ) → cursor_after c ds ≡ c
unfolding cursor_after
steady_after c steady [] = refl
steady_after c steady (d ∷ ds) = rw (steady_stays c steady d) (steady_after c steady ds)

pub steady_is_seen
    : (s : Seen) (ds : List ℕ)
    → is_steady s.cursor ≡ true
    → seen_at (alike_from s.extremes s.cursor.bounds ds) s.cursor ≡ seen_from s ds
steady_is_seen s ds steady =
    ap₂ seen_at (alike_is_seen s.cursor steady s.extremes ds)
    (sym (cursor_seen s ds ∙ steady_after s.cursor steady ds))

-- Beyond document 02: the best windows of a drive, given the five numbers that it writes with. No lemmas here. That no
-- accepted profile with these five numbers has a larger margin, and which of several equally good ones this is, is in
-- `Claims`.
use Rattle.std.specs.Prelude.{ℕ, suc, ◌+◌, ◌-◌, ◌*◌, ◌/◌, min, Bool, cond, not, ◌&&◌, List, [], ◌∷◌, eqb, leb, ltb}
use Rattle.lists.specs.Place.{anywhere, lowest, passed}
use Rattle.std.specs.Prelude.{Result, Ok, Err}
use Rattle.refusal.specs.Answer.{Answer, accepted, refused, refuse_if}
use Rattle.refusal.specs.Table.{number_of, place_of}
use Rattle.refusal.specs.declared.Refusal.{Refusal}
use Rattle.timing.specs.Numbers.{ranges}
use Rattle.timing.specs.Profile.{outside_of, Inside}
use Rattle.timing.specs.declared.Profile.{Profile}
use Rattle.best.specs.declared.Writing.{Writing}
use Rattle.best.specs.declared.Best.{Best}

-- ---- the five numbers

abbrev pub writing : ℕ → ℕ → ℕ → ℕ → ℕ → Writing
writing t1 t0 early normal late =
    record {
      t1 = record { 0 = t1 };
      t0 = record { 0 = t0 };
      early = record { 0 = early };
      normal = record { 0 = normal };
      late = record { 0 = late };
    }

-- those that a profile writes with
abbrev pub writing_of : Profile → Writing
writing_of p =
    record { t1 = p.t1; t0 = p.t0; early = p.early; normal = p.normal; late = p.late }

-- T1, T0, Early, Normal, Late: the first five of document 02's order, so that their ranges are the first five
abbrev pub writing_numbers : Writing → List ℕ
writing_numbers w = w.t1.0 ∷ w.t0.0 ∷ w.early.0 ∷ w.normal.0 ∷ w.late.0 ∷ []

unfoldable pub unset_of : Writing → List Bool
unset_of w = outside_of ranges (writing_numbers w)

abbrev pub InRangeOf : Writing → Type 0
InRangeOf w = Inside ranges (writing_numbers w)

-- D is 2 × (Late − Early); e, its part before Normal, and l, its part after it
abbrev pub swing_of : Writing → ℕ
swing_of w = 2 * (w.late.0 - w.early.0)

abbrev pub advance_of : Writing → ℕ
advance_of w = 2 * (w.normal.0 - w.early.0)

abbrev pub delay_of : Writing → ℕ
delay_of w = 2 * (w.late.0 - w.normal.0)

-- ---- the largest margin

-- there are windows that are true: Early ≤ Normal ≤ Late, D < T1 and l < T0
unfoldable pub has_windows : Writing → Bool
has_windows w =
    leb w.early.0 w.normal.0
    && leb w.normal.0 w.late.0
    && ltb (swing_of w) w.t1.0
    && ltb (delay_of w) w.t0.0

-- the lesser of T1 − D − 1 and (T0 − l − 1) / 2 rounded down
unfoldable pub best_margin : Writing → ℕ
best_margin w = min (w.t1.0 - swing_of w - 1) ((w.t0.0 - delay_of w - 1) / 2)

-- ---- the profile

-- a bound in the middle, so that the longest length below it and the shortest above it have the same room; the lower
-- number where one side has to have one half clock more
abbrev pub middle : ℕ → ℕ → ℕ
middle below above = (below + above + 1) / 2

-- each bound of a pair in the middle of the lengths that are written after its kind of cell; Min and Rpt as far out as
-- the margin needs, and no further
unfoldable pub best_profile : Writing → Profile
best_profile w =
    let two = w.t1.0 in
    let three = w.t1.0 + w.t0.0 in
    let four = w.t1.0 + 2 * w.t0.0 in
    record {
      t1 = w.t1;
      t0 = w.t0;
      early = w.early;
      normal = w.normal;
      late = w.late;
      min = record { 0 = two - swing_of w - best_margin w };
      short =
          record {
            b23 = record { 0 = middle two (three + advance_of w) };
            b34 = record { 0 = middle (three + swing_of w) (four + advance_of w) };
          };
      long =
          record {
            b23 = record { 0 = middle (two - delay_of w) three };
            b34 = record { 0 = middle (three + delay_of w) four };
          };
      rpt = record { 0 = four + swing_of w + best_margin w + 1 };
    }

-- ---- the answer

-- 1, unset: the lowest place, 1 to 5. 2, crossed: no windows are true. Then the margin
unfoldable pub best_rule : Writing → Answer
best_rule w =
    refuse_if (anywhere passed (unset_of w)) 1 (suc (lowest passed (unset_of w)))
    (refuse_if (not (has_windows w)) 2 0
    (accepted (best_margin w)))

-- what stands where there is no profile
abbrev pub no_profile : Profile
no_profile =
    record {
      t1 = record { 0 = 0 };
      t0 = record { 0 = 0 };
      early = record { 0 = 0 };
      normal = record { 0 = 0 };
      late = record { 0 = 0 };
      min = record { 0 = 0 };
      short = record { b23 = record { 0 = 0 }; b34 = record { 0 = 0 } };
      long = record { b23 = record { 0 = 0 }; b34 = record { 0 = 0 } };
      rpt = record { 0 = 0 };
    }

-- the profile that is handed back
unfoldable pub best_given : Writing → Profile
best_given w = cond (eqb (best_rule w).number 0) (best_profile w) no_profile

-- what the code answers, as the paper gives it
abbrev pub best_answer : Result Best Refusal → Answer
best_answer (Ok best) = accepted best.margin
best_answer (Err r) = refused (number_of r) (place_of r)

-- and its profile: all 0 on a refusal
abbrev pub profile_given : Result Best Refusal → Profile
profile_given (Ok best) = best.profile
profile_given (Err r) = no_profile

-- Document 02, (vi): what holds of clearances, and what the field reader's first entry hangs on with them. No lemmas
-- here.
use Rattle.std.specs.Prelude.{◌≡◌, ℕ, ◌<◌, ◌≤◌, Bool, List, length, take, slice_index}
use Rattle.timing.specs.Profile.{profile_rule}
use Rattle.timing.specs.Class.{cursor_of, at_start, cursor_after}
use Rattle.timing.specs.declared.Profile.{Profile}
use Rattle.timing.specs.declared.cursor.Cursor.{Cursor}
use Rattle.fields.specs.FieldRule.{field_rule, field_reading, field_output}
use Rattle.clearance.specs.Clearance.{IsClearance, clearance_in, clearance_of, least_clearance}
use Rattle.clearance.specs.Answers.{field_with_clearance}

-- where the classing of a list stands before its interval k
abbrev pub cursor_at : Profile → List ℕ → ℕ → Cursor
cursor_at p ds k = cursor_after (at_start p) (take k ds)

-- under one accepted profile
pub record Cleared (p : Profile) : Type 0 where
  -- the formula gives what it means, for one interval by itself and for each of a list
  pub of_interval : (two : Bool) (d : ℕ) → IsClearance (cursor_of p two) d (clearance_of p two d)
  pub of_each
      : (ds : List ℕ) (k : ℕ)
      → k < length ds
      → IsClearance (cursor_at p ds k) (slice_index ds k) (clearance_in (cursor_at p ds k) (slice_index ds k))
  -- which is one number
  pub one_number : (c : Cursor) (d e f : ℕ) → IsClearance c d e → IsClearance c d f → e ≡ f
  -- the least over a list is no more than that of any of its intervals, and is that of one of them
  pub least_of_each
      : (ds : List ℕ) (k : ℕ)
      → k < length ds
      → least_clearance p ds ≤ clearance_in (cursor_at p ds k) (slice_index ds k)
  pub least_is_there
      : (ds : List ℕ)
      → 0 < length ds
      → (k : ℕ) × (k < length ds) × (clearance_in (cursor_at p ds k) (slice_index ds k) ≡ least_clearance p ds)

abbrev pub ClearancesMeanIt : Type 0
ClearancesMeanIt = (p : Profile) → (profile_rule p).number ≡ 0 → Cleared p

-- document 01, "Finding and reading a field", of all that the first entry gives: two lists that agree in the used
-- intervals get equal answers, the clearance too, under the same profile and n, where one of them is accepted and the
-- outputs are equally long
abbrev pub UsedIntervalsDecideAll : Type 0
UsedIntervalsDecideAll =
    (p : Profile) (n : ℕ) (ds es old : List ℕ)
    → (field_rule p ds n (length old)).number ≡ 0
    → take (field_reading p ds n (length old)).used es ≡ take (field_reading p ds n (length old)).used ds
    → (field_with_clearance p es n (length old) ≡ field_with_clearance p ds n (length old))
    × (field_output p es n old ≡ field_output p ds n old)

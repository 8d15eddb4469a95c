-- Machine, not meaning: laws tie it to Seen (`proofs/MaskLaws`). No lemmas here.
-- Whether intervals are of class 2, as masks of sixteen bits, by which the bounds for the next are chosen.
use Rattle.std.specs.Prelude.{◌≡◌, ℕ, ◌<◌, Bool, cond, List, [], ◌∷◌, length, ◌==◌, slice_index}
use Rattle.timing.specs.Class.{class_in, is_two, cursor_past}
use Rattle.timing.specs.declared.Bounds.{Bounds}
use Rattle.timing.specs.declared.cursor.Cursor.{Cursor}
use Rattle.clearance.specs.machine.Nearest.{met_with}
use Rattle.clearance.specs.declared.extremes.Extremes.{Extremes}

-- all ones for class 2, 0 for any other
abbrev pub mask_of : Bool → ℕ
mask_of two = cond two 65535 0

abbrev pub is_ones : ℕ → Bool
is_ones x = x == 65535

-- nothing but all ones and 0
abbrev pub IsMask : ℕ → Type 0
IsMask x = mask_of (is_ones x) ≡ x

pub record AreMasks (xs : List ℕ) : Type 0 where
  pub each : (k : ℕ) → k < length xs → IsMask (slice_index xs k)

-- of an interval where the classing stands
unfoldable pub mask_in : Cursor → ℕ → ℕ
mask_in c d = mask_of (is_two (class_in c d))

-- of each interval of a list, from where the classing stands on
unfoldable pub masks_from : Cursor → List ℕ → List ℕ
masks_from c [] = []
masks_from c (d ∷ ds) = mask_in c d ∷ masks_from (cursor_past c d) ds

-- the bounds behind an interval of this mask
abbrev pub bounds_by : ℕ → Bounds → Bounds → Bounds
bounds_by x short long = cond (is_ones x) short long

-- with each interval of a list, between the bounds for the mask of the one before it
unfoldable pub masked_from : Extremes → Bounds → Bounds → List ℕ → List ℕ → Extremes
masked_from m short long [] xs = m
masked_from m short long (d ∷ ds) [] = m
masked_from m short long (d ∷ ds) (x ∷ xs) = masked_from (met_with m (bounds_by x short long) d) short long ds xs

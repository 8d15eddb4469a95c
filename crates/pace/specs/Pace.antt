-- Document 02, (xi): what two sums of intervals tell of a drive's speed, and intervals corrected by them. No lemmas here.
-- All numbers are of any size; what the code cuts off is told by a law (`speed/specs/Claims`).
use Rattle.std.specs.Prelude.{ℕ, ◌+◌, ◌-◌, ◌*◌, ◌/◌, Bool, List, [], ◌∷◌, ltb, ℤ, pos, ◌-ℤ◌}
use Rattle.refusal.specs.Answer.{Answer, accepted, refuse_if}

-- ---- how fast the drive runs

-- the intervals at even places, counted from the first, and those at odd places
unfoldable pub even_ones : List ℕ → List ℕ
even_ones [] = []
even_ones (d ∷ []) = d ∷ []
even_ones (d ∷ e ∷ ds) = d ∷ even_ones ds

unfoldable pub odd_ones : List ℕ → List ℕ
odd_ones [] = []
odd_ones (d ∷ []) = []
odd_ones (d ∷ e ∷ ds) = e ∷ odd_ones ds

-- the signed difference of a sum to what it is at nominal speed, 32 × T1, which is reported
abbrev pub difference : ℕ → ℕ → ℤ
difference full s = pos s -ℤ pos full

-- its size, sign dropped
abbrev pub differs : ℕ → ℕ → ℕ
differs full s = s - full + (full - s)

-- 18, off speed: 16 × the difference, sign dropped, exceeds 32 × T1
unfoldable pub off_speed : ℕ → ℕ → Bool
off_speed full s = ltb full (16 * differs full s)

-- for either; its place is 0 or 1, the lower if both
unfoldable pub pace_rule : ℕ → ℕ → ℕ → Answer
pace_rule full even odd =
    refuse_if (off_speed full even) 18 0
    (refuse_if (off_speed full odd) 18 1
    (accepted 0))

-- ---- corrected numbers

-- an interval becomes (d × 32 × T1) divided by its S and rounded down
unfoldable pub corrected : ℕ → ℕ → ℕ → ℕ
corrected full s d = d * full / s

-- each of a list, the first having the first sum, counted on alike: the two sums take turns
unfoldable pub corrected_from : ℕ → ℕ → ℕ → List ℕ → List ℕ
corrected_from full own other [] = []
corrected_from full own other (d ∷ ds) = corrected full own d ∷ corrected_from full other own ds

-- Machine, not meaning: laws tie it to Pace (`speed/proofs/CutOffLaws`). No lemmas here.
-- Corrected numbers as the code has them: cut off at 65,535, which is wide under every profile.
use Rattle.std.specs.Prelude.{ℕ, ◌*◌, ◌≤◌, ◌<◌, min, ◌≡◌, List, [], ◌∷◌}
use Rattle.lists.specs.Sum.{sum_of}
use Rattle.pace.specs.Pace.{even_ones, odd_ones, corrected}
use Rattle.pace.specs.declared.Pace.{Pace}

-- cut off where a 16-bit number ends
abbrev pub cut_off : ℕ → ℕ
cut_off d = min d 65535

unfoldable pub cut : ℕ → ℕ → ℕ → ℕ
cut full s d = cut_off (corrected full s d)

-- each of a list, the first having the first sum
unfoldable pub cut_from : ℕ → ℕ → ℕ → List ℕ → List ℕ
cut_from full own other [] = []
cut_from full own other (d ∷ ds) = cut full own d ∷ cut_from full other own ds

-- at a measured pace
unfoldable pub slowed : Pace → List ℕ → List ℕ
slowed pace ds = cut_from pace.nominal pace.even pace.odd ds

-- what was measured, and how large it can be
pub record Small (pace : Pace) : Type 0 where
  pub nominal : pace.nominal ≤ 32736
  pub even : pace.even ≤ 4194240
  pub odd : pace.odd ≤ 4194240

pub record Measured (t1 : ℕ) (run : List ℕ) (pace : Pace) : Type 0 where
  pub nominal : pace.nominal ≡ 32 * t1
  pub even : pace.even ≡ sum_of (even_ones run)
  pub odd : pace.odd ≡ sum_of (odd_ones run)
  pub small : Small pace

-- a pace that can be divided by
pub record Able (pace : Pace) : Type 0 where
  pub nominal : pace.nominal ≤ 32736
  pub even : 0 < pace.even
  pub odd : 0 < pace.odd

-- Document 02 (vii): what holds of the merge. No lemmas here.
use Rattle.std.specs.Prelude.{ℕ, ◌≤◌, ◌<◌, ◌≡◌, Bool, false, not, cond, ◌&&◌, List, [], ◌∷◌, map, length}
use Rattle.refusal.specs.Answer.{accepted, first_refusal}
use Rattle.sets.specs.Set.{Sector, sectors_in}
use Rattle.sets.specs.Held.{Held, Nothing, One, Twice, numbers, held_of}
use Rattle.sets.specs.Alone.{set_rule}
use Rattle.merge.specs.Merge.{taken, merged, in_either}
use Rattle.merge.specs.Rule.{room_rule, merge_rule, result, merge_answer, merge_output}

-- the numbers that pass a test, in order
unfoldable pub those : (ℕ → Bool) → List ℕ → List ℕ
those f [] = []
those f (n ∷ ns) = cond (f n) (n ∷ those f ns) (those f ns)

-- the merge takes the two sets wherever the output has room
abbrev pub Takes : List ℕ → List ℕ → Type 0
Takes first second =
    (room : ℕ)
    → length (result first second) ≤ room
    → merge_rule first second room ≡ accepted (length (merged (sectors_in first) (sectors_in second)))

-- a number that both sets have with neither sum good
unfoldable pub both_fail : Held → Held → Bool
both_fail Nothing held = false
both_fail (One a) Nothing = false
both_fail (One a) (One b) = not a.holds && not b.holds
both_fail (One a) Twice = false
both_fail Twice held = false

pub record MergeLaws : Type 0 where
  -- every number of either set is in the result once, none else, in ascending order
  pub each_number_once
      : (first second : List ℕ) (room : ℕ)
      → (merge_rule first second room).number ≡ 0
      → map (λ (s : Sector). s.number) (merged (sectors_in first) (sectors_in second))
      ≡ those (in_either (sectors_in first) (sectors_in second)) numbers
  -- and what it has of a number is what is taken of the two
  pub each_number_taken
      : (first second : List ℕ) (room n : ℕ)
      → (merge_rule first second room).number ≡ 0
      → n < 256
      → held_of n (merged (sectors_in first) (sectors_in second))
      ≡ taken (held_of n (sectors_in first)) (held_of n (sectors_in second))
  -- a set that is taken with the empty set is taken with it on either side and with itself, and all give it in order
  pub with_itself
      : (bs : List ℕ) (room : ℕ)
      → (merge_rule bs [] room).number ≡ 0
      → Takes bs []
      × Takes [] bs
      × Takes bs bs
      × (result [] bs ≡ result bs [])
      × (result bs bs ≡ result bs [])
  -- the merged set is a set that the merge takes, and it is in order
  pub merged_is_taken
      : (first second : List ℕ) (room : ℕ)
      → (merge_rule first second room).number ≡ 0
      → Takes (result first second) [] × (result (result first second) [] ≡ result first second)
  -- where no number of both sets has two failed sums, nothing depends on which pass came first
  pub either_pass_first
      : (first second old : List ℕ)
      → ((n : ℕ) → n < 256 → both_fail (held_of n (sectors_in first)) (held_of n (sectors_in second)) ≡ false)
      → (merge_answer first second (length old) ≡ merge_answer second first (length old))
      × (merge_output first second old ≡ merge_output second first old)
  -- with the empty set: what the set by itself is turned away for, and then 9
  pub with_the_empty_set
      : (bs : List ℕ) (room : ℕ)
      → merge_rule bs [] room ≡ first_refusal (set_rule bs) (room_rule (sectors_in bs) (sectors_in []) room)
  -- and the set that it gives has of each number what the set has
  pub each_number_kept
      : (bs : List ℕ) (room n : ℕ)
      → (merge_rule bs [] room).number ≡ 0
      → n < 256
      → held_of n (sectors_in (result bs [])) ≡ held_of n (sectors_in bs)

-- Document 02 (vii): what the merge answers and leaves: 13, 15, 17, 9. No lemmas here.
use Rattle.std.specs.Prelude.{ℕ, cond, ◌||◌, List, eqb, ltb, length, Result, Ok, Err}
use Rattle.lists.specs.Place.{anywhere, lowest}
use Rattle.refusal.specs.Table.{number_of, place_of}
use Rattle.refusal.specs.Answer.{Answer, accepted, refused, refuse_if, settled}
use Rattle.refusal.specs.declared.Refusal.{Refusal}
use Rattle.sets.specs.declared.SetSize.{SetSize}
use Rattle.sets.specs.Set.{Sector, set_bytes, is_misfit_set, sectors_in}
use Rattle.sets.specs.Held.{numbers}
use Rattle.merge.specs.Merge.{merged, is_crowded, at_odds_at}

-- 9, else the number of sectors
unfoldable pub room_rule : List Sector → List Sector → ℕ → Answer
room_rule first second room =
    refuse_if (ltb room (length (set_bytes (merged first second)))) 9 0
    (accepted (length (merged first second)))

-- 13 for a misfit sector, then 15 with place 0, then 17; its place is the lowest such sector number; then 9
unfoldable pub merge_rule : List ℕ → List ℕ → ℕ → Answer
merge_rule first second room =
    refuse_if (is_misfit_set first || is_misfit_set second) 13 0
    (refuse_if (is_crowded (sectors_in first) (sectors_in second)) 15 0
    (refuse_if
    (anywhere (at_odds_at (sectors_in first) (sectors_in second)) numbers)
    17
    (lowest (at_odds_at (sectors_in first) (sectors_in second)) numbers)
    (room_rule (sectors_in first) (sectors_in second) room)))

-- an answer with the number of bytes stored: 0 on a refusal
pub record MergeAnswer : Type 0 where
  pub answer : Answer
  pub stored : ℕ

-- the merge's answer, as it is declared
abbrev pub merged_answer : Result SetSize Refusal → MergeAnswer
merged_answer (Ok size) = record { answer = accepted size.count; stored = size.bytes }
merged_answer (Err r) = record { answer = refused (number_of r) (place_of r); stored = 0 }

-- and as the rules give it
abbrev pub storing : Answer → ℕ → MergeAnswer
storing a bytes = record { answer = a; stored = cond (eqb a.number 0) bytes 0 }

-- the bytes of the merged set
abbrev pub result : List ℕ → List ℕ → List ℕ
result first second = set_bytes (merged (sectors_in first) (sectors_in second))

unfoldable pub merge_answer : List ℕ → List ℕ → ℕ → MergeAnswer
merge_answer first second room = storing (merge_rule first second room) (length (result first second))

-- what the output holds afterwards
unfoldable pub merge_output : List ℕ → List ℕ → List ℕ → List ℕ
merge_output first second old = settled (merge_rule first second (length old)) (result first second) old

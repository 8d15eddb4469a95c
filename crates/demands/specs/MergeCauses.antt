-- Document 02, (vii): the causes of merging two sets of sectors, in their turn. No lemmas here.
use Rattle.std.specs.Prelude.{ℕ, ◌<◌, ◌≡◌, true, List, ◌⊎◌, length}
use Rattle.lists.specs.Place.{anywhere, lowest}
use Rattle.refusal.specs.Answer.{Answer}
use Rattle.sets.specs.Set.{Sector, set_bytes, is_misfit_set, sectors_in}
use Rattle.sets.specs.Held.{numbers, how_many}
use Rattle.merge.specs.Merge.{merged, in_either, at_odds_at}
use Rattle.merge.specs.Rule.{MergeAnswer}
use Rattle.demands.specs.Order.{Order, accept, turn, at0}

-- 15, crowded: above 32 sectors in either set, or in different numbers
abbrev pub Crowded : List Sector → List Sector → Type 0
Crowded first second =
    ((32 < length first) ⊎ (32 < length second)) ⊎ (32 < how_many (in_either first second) numbers)

-- 17, at odds: a number twice in one set, or with both sums good and unlike bytes; the lowest sector number
abbrev pub AtOdds : List Sector → List Sector → ℕ → Type 0
AtOdds first second place =
    (anywhere (at_odds_at first second) numbers ≡ true) × (place ≡ lowest (at_odds_at first second) numbers)

-- merge: 13 (a list that is no set: a length code above 3, or data not that long), 15, 17, 9 (the output is shorter
-- than the merged set)
abbrev pub merge_order : List ℕ → List ℕ → ℕ → Order
merge_order first second room =
    turn 13 (at0 ((is_misfit_set first ≡ true) ⊎ (is_misfit_set second ≡ true)))
    (turn 15 (at0 (Crowded (sectors_in first) (sectors_in second)))
    (turn 17 (AtOdds (sectors_in first) (sectors_in second))
    (turn 9 (at0 (room < length (set_bytes (merged (sectors_in first) (sectors_in second)))))
    accept)))

-- the merge's answer with the bytes stored as its count, which is what the lent buffer goes by
abbrev pub counted_in_bytes : MergeAnswer → Answer
counted_in_bytes m = record { number = m.answer.number; place = m.answer.place; count = m.stored }

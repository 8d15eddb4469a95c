-- Machine, not meaning: laws tie it to Merge and Rule (`proofs/ChoiceLaws`, `RuleLaws`, `SettleLaws`). No lemmas here.
-- What the code tests, by the indexes of two sets, and in which order.
use Rattle.std.specs.Prelude.{ℕ, ◌≡◌, Bool, true, false, not, ◌&&◌, ◌||◌, List, eqb, ltb, length, get_or}
use Rattle.lists.specs.Place.{anywhere, lowest}
use Rattle.refusal.specs.Answer.{Answer, accepted, refuse_if, first_refusal, settled}
use Rattle.sets.specs.Set.{Sector, is_misfit_set, sectors_in}
use Rattle.sets.specs.Held.{numbers, Held, Nothing, One, Twice, how_many}
use Rattle.merge.specs.Merge.{in_either, at_odds_at}
use Rattle.merge.specs.Rule.{room_rule, MergeAnswer, storing, result}

-- whether one of two indexes has a number
unfoldable pub entry_in_either : List ℕ → List ℕ → ℕ → Bool
entry_in_either a b n = not (eqb (get_or a n 0) 0) || not (eqb (get_or b n 0) 0)

-- whether it is the second set's copy that is taken, where the two are not at odds
unfoldable pub takes_second : Held → Held → Bool
takes_second Nothing held = true
takes_second (One a) Nothing = false
takes_second (One a) (One b) = not a.holds && b.holds
takes_second (One a) Twice = true
takes_second Twice held = false

-- ---- the merge's tests in the order in which they are made

-- 13, then 15 for a set of more than 32 sectors
unfoldable pub sets_rule : List ℕ → List ℕ → Answer
sets_rule first second =
    refuse_if (is_misfit_set first || is_misfit_set second) 13 0
    (refuse_if (ltb 32 (length (sectors_in first)) || ltb 32 (length (sectors_in second))) 15 0
    (accepted 0))

-- 15 for more than 32 different numbers, then 17; else how many there are
unfoldable pub numbers_rule : List Sector → List Sector → Answer
numbers_rule first second =
    refuse_if (ltb 32 (how_many (in_either first second) numbers)) 15 0
    (refuse_if (anywhere (at_odds_at first second) numbers) 17 (lowest (at_odds_at first second) numbers)
    (accepted (how_many (in_either first second) numbers)))

-- then 9; else the number of sectors
unfoldable pub checked_rule : List Sector → List Sector → ℕ → Answer
checked_rule first second room = first_refusal (numbers_rule first second) (room_rule first second room)

-- the answer and the output that a rule settles
abbrev pub Settles : List ℕ → List ℕ → Answer → MergeAnswer → List ℕ → List ℕ → Type 0
Settles first second rule answer new old =
    (answer ≡ storing rule (length (result first second))) × (new ≡ settled rule (result first second) old)

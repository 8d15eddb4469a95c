-- Document 02 (vii) and (xiv): what one set by itself is turned away for. No lemmas here.
use Rattle.std.specs.Prelude.{ℕ, Bool, List, ltb, length}
use Rattle.lists.specs.Place.{anywhere, lowest}
use Rattle.refusal.specs.Answer.{Answer, accepted, refuse_if}
use Rattle.sets.specs.Set.{Sector, is_misfit_set, sectors_in}
use Rattle.sets.specs.Held.{held_of, is_twice, numbers}

-- a set has a number twice
unfoldable pub is_twice_in : List Sector → ℕ → Bool
is_twice_in ss n = is_twice (held_of n ss)

-- 13 for a misfit sector, then 15 with place 0 above 32 sectors, then 17 for a number twice, with the lowest such
-- number; else the number of sectors. These are the refusals of the merge with the empty set but for 9
-- (`merge/specs/Claims`)
unfoldable pub set_rule : List ℕ → Answer
set_rule bs =
    refuse_if (is_misfit_set bs) 13 0
    (refuse_if (ltb 32 (length (sectors_in bs))) 15 0
    (refuse_if
    (anywhere (is_twice_in (sectors_in bs)) numbers)
    17
    (lowest (is_twice_in (sectors_in bs)) numbers)
    (accepted (length (sectors_in bs)))))

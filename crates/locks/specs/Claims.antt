-- Document 02, (ix): before the first interval of a search the previous counts as class 2. No lemmas here.
use Rattle.std.specs.Prelude.{ℕ, ◌≡◌, List, drop}
use Rattle.timing.specs.declared.Profile.{Profile}
use Rattle.locks.specs.Lock.{counted_from, find_rule}

-- the first interval of a search is the one at its start: the finder from a start is the finder over the rest
abbrev pub SearchesStartAnew : Type 0
SearchesStartAnew =
    (p : Profile) (ds : List ℕ) (start : ℕ)
    → find_rule p ds start ≡ counted_from start (find_rule p (drop start ds) 0)

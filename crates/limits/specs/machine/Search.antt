-- Machine, not meaning: laws tie it to Limits (`proofs/FoundLaws`). No lemmas here.
-- How the sides are found: the one-byte lists are searched, lowest first.
use Rattle.std.specs.Prelude.{ℕ, zero, suc, ◌+◌, Bool, true, false, cond, List, [], ◌∷◌, ltb, set, replicate}
use Rattle.std.specs.Prelude.{Option, Some, None}
use Rattle.timing.specs.Class.{is_two, class_of}
use Rattle.timing.specs.declared.Profile.{Profile}
use Rattle.lengths.specs.Stream.{stream_of}
use Rattle.limits.specs.Sides.{sides, crosses, beyond}
use Rattle.limits.specs.declared.side.Side.{Side}
use Rattle.limits.specs.declared.side.Edge.TheVariants.{Min}
use Rattle.limits.specs.declared.side.Kind.TheVariants.{Both}
use Rattle.limits.specs.declared.search.Evidence.{Evidence}
use Rattle.limits.specs.declared.Limit.{Limit}
use Rattle.limits.specs.declared.Limits.{Limits}

-- a list and an interval of it that show a side
abbrev pub shown_at : ℕ → ℕ → Option Evidence
shown_at item interval = Some (record { item = item; interval = interval })

-- the first of some intervals that crosses, the first of them being at place k, after a cell of class 2 or not
unfoldable pub seen_from : Profile → Side → ℕ → ℕ → Bool → ℕ → List ℕ → Option Evidence
seen_from p s n item two k [] = None
seen_from p s n item two k (d ∷ ds) =
    cond (crosses p s n two d) (shown_at item k) (seen_from p s n item (is_two (class_of p two d)) (k + 1) ds)

-- in the stream of a one-byte list
abbrev pub seen_in : Profile → Side → ℕ → ℕ → Option Evidence
seen_in p s n item = seen_from p s n item true 0 (stream_of p (item ∷ []))

-- what is seen, else what is seen later
abbrev pub or_later : Option Evidence → Option Evidence → Option Evidence
or_later (Some shown) later = Some shown
or_later None later = later

-- in so many one-byte lists from one on, the lowest first
unfoldable pub searched_from : Profile → Side → ℕ → ℕ → ℕ → Option Evidence
searched_from p s n zero item = None
searched_from p s n (suc left) item = or_later (seen_in p s n item) (searched_from p s n left (item + 1))

-- up to 1B, where the last length is that no lower list has
unfoldable pub searched : Profile → Side → ℕ → Option Evidence
searched p s n = searched_from p s n 28 0

-- a side with its evidence
abbrev pub limit_of : Profile → Side → ℕ → ℕ → Limit
limit_of p s item interval = record { side = s; item = item; interval = interval; moved = beyond p s }

abbrev pub blank : Limit
blank = record { side = record { edge = Min; after = Both; above = false }; item = 0; interval = 0; moved = 0 }

abbrev pub no_limits : Limits
no_limits = record { count = 0; limits = replicate 10 blank }

-- one limit more, while there is room
abbrev pub added : Limits → Limit → Limits
added a x =
    cond (ltb a.count 10) (record { count = a.count + 1; limits = set a.limits a.count x }) a

abbrev pub with_seen : Profile → Limits → Side → Option Evidence → Limits
with_seen p a s None = a
with_seen p a s (Some shown) = added a (limit_of p s shown.item shown.interval)

-- one side more
unfoldable pub pushed : Profile → ℕ → Limits → Side → Limits
pushed p n a s = with_seen p a s (searched p s n)

unfoldable pub gathered_from : Profile → ℕ → Limits → List Side → Limits
gathered_from p n a [] = a
gathered_from p n a (s ∷ ss) = gathered_from p n (pushed p n a s) ss

unfoldable pub gathered : Profile → ℕ → Limits
gathered p n = gathered_from p n no_limits sides

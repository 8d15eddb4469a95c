-- Document 02, (iii), "Turned away": the causes of the index in their turn, and of the set of a track. No lemmas here.
use Rattle.std.specs.Prelude.{ℕ, ◌<◌, List, length}
use Rattle.timing.specs.declared.Profile.{Profile}
use Rattle.sets.specs.Set.{set_bytes}
use Rattle.entries.specs.Entries.{entries_of}
use Rattle.track_set.specs.TrackSectors.{sectors_found}
use Rattle.demands.specs.Order.{Order, accept, turn, at0}
use Rattle.demands.specs.Causes.{profile_order}

-- 1, 2, 15, crowded: a 33rd entry would be needed
abbrev pub index_order : Profile → List ℕ → Order
index_order p ds = profile_order p (turn 15 (at0 (32 < length (entries_of p ds))) accept)

-- as for the index, then 9: the output is shorter than the set
abbrev pub track_set_order : Profile → List ℕ → ℕ → Order
track_set_order p ds room =
    profile_order p
    (turn 15 (at0 (32 < length (entries_of p ds)))
    (turn 9 (at0 (room < length (set_bytes (sectors_found p ds)))) accept))

-- Document 02, (iii): the search without the number of searches that bounds it. No lemmas here.
use Rattle.std.specs.Prelude.{ℕ, ◌≡◌, true, false, List, [], ◌++◌}
use Rattle.timing.specs.declared.Profile.{Profile}
use Rattle.entries.specs.Entries.{has_lock, lock_place, entries_at, next_start, entries_from}

-- the entries of a track, by its locks
pub record GoesByLocks (p : Profile) (ds : List ℕ) : Type 0 where
  -- at a lock: what it adds, and then what the search adds that goes on after it
  pub goes_on
      : (start : ℕ)
      → has_lock p ds start ≡ true
      → entries_from p ds start
      ≡ entries_at p ds (lock_place p ds start) ++ entries_from p ds (next_start p ds (lock_place p ds start))
  -- without one: nothing
  pub ends : (start : ℕ) → has_lock p ds start ≡ false → entries_from p ds start ≡ []

abbrev pub TracksGoByLocks : Type 0
TracksGoByLocks = (p : Profile) (ds : List ℕ) → GoesByLocks p ds

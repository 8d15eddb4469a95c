-- Document 02, (x): the index in one order. No lemmas here.
use Rattle.std.specs.Prelude.{ℕ, ◌≡◌, List}
use Rattle.timing.specs.declared.Profile.{Profile}
use Rattle.entries.specs.Entries.{entries_of}
use Rattle.entries.specs.declared.Entry.{Entry}
use Rattle.track.specs.Order.{in_order, Orders}

-- the index: the entries found, each exactly as often, by sector number and then by ID place, and no other such list
pub record InOneOrder (p : Profile) (ds : List ℕ) : Type 0 where
  pub orders : Orders (entries_of p ds) (in_order (entries_of p ds))
  pub only : (other : List Entry) → Orders (entries_of p ds) other → other ≡ in_order (entries_of p ds)

abbrev pub IndexesAreInOneOrder : Type 0
IndexesAreInOneOrder = (p : Profile) (ds : List ℕ) → InOneOrder p ds

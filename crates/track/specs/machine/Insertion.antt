-- Machine, not meaning: laws tie it to Order. How an entry is put among others that are handed back. No lemmas here.
use Rattle.std.specs.Prelude.{ℕ, zero, suc, Bool, cond, List, get_or, set}
use Rattle.track.specs.Order.{lower_keys}
use Rattle.track.specs.Index.{no_entry}
use Rattle.track.specs.HandedBack.{index_entry_of}
use Rattle.track.specs.declared.index.IndexEntry.{IndexEntry}

abbrev pub handed_before : IndexEntry → IndexEntry → Bool
handed_before a b = lower_keys a.sector a.id_place b.sector b.id_place

-- stands where there is no entry
abbrev pub blank : IndexEntry
blank = index_entry_of no_entry

-- those that it goes before move up by one, from the last on; it takes the place that they leave
unfoldable pub slid_in : List IndexEntry → ℕ → IndexEntry → List IndexEntry
slid_in entries zero e = set entries 0 e
slid_in entries (suc k) e =
    cond (handed_before e (get_or entries k blank))
    (slid_in (set entries (suc k) (get_or entries k blank)) k e)
    (set entries (suc k) e)

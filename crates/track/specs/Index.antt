-- Document 02, (iii), (x): the index of a track, from the entries that are on it. No lemmas here.
use Rattle.std.specs.Prelude.{ℕ, None, ◌-◌, cond, List, ◌++◌, eqb, ltb, length, replicate}
use Rattle.refusal.specs.Answer.{Answer, accepted, refuse_if, first_refusal}
use Rattle.timing.specs.Profile.{profile_rule}
use Rattle.timing.specs.declared.Profile.{Profile}
use Rattle.entries.specs.Entries.{entries_of}
use Rattle.entries.specs.declared.Entry.{Entry}
use Rattle.track.specs.Order.{in_order}

-- 15, crowded, when a 33rd entry would be needed; else the number of entries
unfoldable pub crowd_rule : List Entry → Answer
crowd_rule entries = refuse_if (ltb 32 (length entries)) 15 0 (accepted (length entries))

-- 1, 2, then 15
unfoldable pub index_rule : Profile → List ℕ → Answer
index_rule p ds = first_refusal (profile_rule p) (crowd_rule (entries_of p ds))

-- an entry of zeros, without data
abbrev pub no_entry : Entry
no_entry = record { track = 0; side = 0; sector = 0; code = 0; place = 0; field = None }

-- 32 entries: those that there are, and blank ones after them
unfoldable pub padded : List Entry → List Entry
padded entries = entries ++ replicate (32 - length entries) no_entry

-- what is handed back: nothing but blank entries on a refusal
unfoldable pub handed_back : Answer → List Entry → List Entry
handed_back a entries = cond (eqb a.number 0) (padded entries) (replicate 32 no_entry)

-- those found, by sector number, then by ID place
unfoldable pub index_entries : Profile → List ℕ → List Entry
index_entries p ds = handed_back (index_rule p ds) (in_order (entries_of p ds))

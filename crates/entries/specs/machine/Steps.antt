-- Machine, not meaning: laws tie it to Entries. What the functions hand to each other. No lemmas here.
use Rattle.std.specs.Prelude.{ℕ, ◌≡◌, Bool, true, cond, ◌&&◌, Option, Some, None, List, length, get_or, take, drop}
use Rattle.timing.specs.declared.Profile.{Profile}
use Rattle.entries.specs.FieldKinds.{field_of, items_of, reads, opens_with, identifies, is_id, data_bytes}
use Rattle.entries.specs.Entries.{has_lock, lock_place, data_from, entry_at, entry_end, next_start}
use Rattle.entries.specs.declared.id.Id.{Id}
use Rattle.entries.specs.declared.opening.Opened.{Opened}
use Rattle.entries.specs.declared.content.Sought.{Sought}
use Rattle.entries.specs.declared.Step.{Step}
use Rattle.entries.specs.declared.Step.TheVariants.{End, Other, Begins}

-- a field of n bytes of a kind at the front of intervals
unfoldable pub opens : Profile → List ℕ → ℕ → ℕ → Bool
opens p ds n kind = reads p ds n && opens_with kind (items_of p ds n)

unfoldable pub opened_of : Profile → List ℕ → ℕ → ℕ → Option Opened
opened_of p ds n kind =
    cond (opens p ds n kind) (Some (record { used = (field_of p ds n).used; holds = (field_of p ds n).holds })) None

-- what a buffer for the first of its bytes holds then
abbrev pub GivesItems : Profile → List ℕ → ℕ → ℕ → List ℕ → List ℕ → Type 0
GivesItems p ds n kind old new = opens p ds n kind ≡ true → new ≡ take (length old) (items_of p ds n)

-- an ID's four bytes and the intervals that it used
abbrev pub id_with : List ℕ → ℕ → Id
id_with us used =
    record { track = get_or us 4 0; side = get_or us 5 0; sector = get_or us 6 0; code = get_or us 7 0; used = used }

-- items as an ID
unfoldable pub identified : List ℕ → ℕ → Option Id
identified us used = cond (identifies us) (Some (id_with us used)) None

-- what stands at the front of intervals, as an ID
unfoldable pub id_read : Profile → List ℕ → Option Id
id_read p ds = cond (is_id p ds) (Some (id_with (items_of p ds 10) (field_of p ds 10).used)) None

-- the data of a code
unfoldable pub data_read : Profile → List ℕ → ℕ → Option Opened
data_read p ds code = opened_of p ds (data_bytes code) 0xfb

module _ (p : Profile) (ds : List ℕ) where
  -- the data from a start on, and where the search goes on
  abbrev pub sought : ℕ → ℕ → Sought
  sought start code = record { field = data_from p ds start code; end = entry_end p ds start code }

  -- a lock looked at
  unfoldable pub step_at : ℕ → Step
  step_at k = cond (is_id p (drop k ds)) (Begins (entry_at p ds k) (next_start p ds k)) (Other (next_start p ds k))

  -- one search
  unfoldable pub step_from : ℕ → Step
  step_from start = cond (has_lock p ds start) (step_at (lock_place p ds start)) End

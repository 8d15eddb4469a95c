-- Document 02, (iii): the entries of a track. The search is the paper's, over what the finder and the field reader of
-- `fields` promise; the list may have any length. Places count from the track's first interval. No lemmas here.
use Rattle.std.specs.Prelude.{ℕ, zero, suc, ◌+◌, ◌-◌, Bool, cond, ◌&&◌, Option, Some, None}
use Rattle.std.specs.Prelude.{List, [], ◌∷◌, ◌++◌, eqb, length, get_or, drop}
use Rattle.timing.specs.declared.Profile.{Profile}
use Rattle.locks.specs.Lock.{find_rule}
use Rattle.entries.specs.FieldKinds.{field_of, items_of, is_id, data_bytes, is_data}
use Rattle.entries.specs.declared.DataField.{DataField}
use Rattle.entries.specs.declared.Entry.{Entry}

module _ (p : Profile) (ds : List ℕ) where
  -- ---- the locks of a track

  -- whether a lock stands with all 64 at or after a start, and the place of the first
  unfoldable pub has_lock : ℕ → Bool
  has_lock start = eqb (find_rule p ds start).number 0

  unfoldable pub lock_place : ℕ → ℕ
  lock_place start = (find_rule p ds start).count

  -- the first interval after the field of n bytes at a place
  unfoldable pub field_end : ℕ → ℕ → ℕ
  field_end k n = k + (field_of p (drop k ds) n).used

  -- ---- an entry

  -- whether the next lock from a start on has the data of a code
  unfoldable pub has_data : ℕ → ℕ → Bool
  has_data start code = has_lock start && is_data p (drop (lock_place start) ds) code

  -- the data's place and whether its sum holds; or that no data was found
  unfoldable pub data_from : ℕ → ℕ → Option DataField
  data_from start code =
      cond (has_data start code)
      (Some
      (record { place = lock_place start; holds = (field_of p (drop (lock_place start) ds) (data_bytes code)).holds }))
      None

  -- a byte of the ID at a place
  unfoldable pub id_byte : ℕ → ℕ → ℕ
  id_byte k i = get_or (items_of p (drop k ds) 10) i 0

  -- the entry that begins at a place: the four bytes after FE, that place, and the data, searched after the used
  -- intervals
  unfoldable pub entry_at : ℕ → Entry
  entry_at k =
      record {
        track = id_byte k 4;
        side = id_byte k 5;
        sector = id_byte k 6;
        code = id_byte k 7;
        place = k;
        field = data_from (field_end k 10) (id_byte k 7);
      }

  -- ---- the search

  -- after an ID, the search goes on after the last field that belongs to the entry
  unfoldable pub entry_end : ℕ → ℕ → ℕ
  entry_end start code = cond (has_data start code) (field_end (lock_place start) (data_bytes code)) start

  -- where the search goes on after a lock: after a field that belongs to an entry, else at the place after the lock
  unfoldable pub next_start : ℕ → ℕ
  next_start k = cond (is_id p (drop k ds)) (entry_end (field_end k 10) (id_byte k 7)) (suc k)

  -- what a lock adds: an entry, if one begins there
  unfoldable pub entries_at : ℕ → List Entry
  entries_at k = cond (is_id p (drop k ds)) (entry_at k ∷ []) []

  -- the entries from a start on, by so many searches at most
  unfoldable pub entries_by : ℕ → ℕ → List Entry
  entries_by zero start = []
  entries_by (suc searches) start =
      cond (has_lock start)
      (entries_at (lock_place start) ++ entries_by searches (next_start (lock_place start)))
      []

  -- each search starts after the one before it, so there are no more of them than intervals: with more nothing is added
  -- (`Claims`)
  unfoldable pub entries_from : ℕ → List Entry
  entries_from start = entries_by (length ds - start) start

  -- all entries of the track, in the order found
  unfoldable pub entries_of : List Entry
  entries_of = entries_from 0

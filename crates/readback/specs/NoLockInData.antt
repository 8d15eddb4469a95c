-- Document 02, (ii): in any stream written from data bytes alone no lock stands anywhere. And the customer's page. No
-- lemmas here.
use Rattle.std.specs.Prelude.{ℕ, ◌≡◌, true, false, List, [], ◌∷◌, ◌++◌, drop, replicate}
use Rattle.lists.specs.Place.{anywhere}
use Rattle.refusal.specs.Answer.{refused}
use Rattle.timing.specs.Class.{classes_of}
use Rattle.timing.specs.declared.Profile.{Profile}
use Rattle.timing.specs.declared.Class.{Class}
use Rattle.items.specs.Item.{is_mark}
use Rattle.items.specs.Rule.{list_rule}
use Rattle.lengths.specs.Stream.{stream_of}
use Rattle.locks.specs.Lock.{begins_with, lock_at, find_rule}
use Rattle.demands.specs.Streams.{AcceptedProfile, Moved}
use Rattle.demands.specs.Demand3.{stated}
use Rattle.demands.specs.Settled.{worked}

-- intervals without a lock
pub record NoLock (p : Profile) (ds : List ℕ) : Type 0 where
  -- none stands at any place, whatever the start: place k is counted from there
  pub none_stands : (start k : ℕ) → lock_at (classes_of p (drop start ds)) k ≡ false
  -- the finder answers 10 from every start
  pub adrift : (start : ℕ) → find_rule p ds start ≡ refused 10 0

-- an accepted list of data bytes alone, among them those that its check orders become
pub record DataAlone (items : List ℕ) : Type 0 where
  pub passes : (list_rule items).number ≡ 0
  pub no_marks : anywhere is_mark items ≡ false

-- under any accepted profile, as written and with every interval moved by at most the margin
abbrev pub NoLockInData : Type 0
NoLockInData =
    (p : Profile)
    → AcceptedProfile p
    → (items : List ℕ)
    → DataAlone items
    → NoLock p (stream_of p items)
    × ((changed : List ℕ) → Moved (stated p) (stream_of p items) changed → NoLock p changed)

-- 65 ones, then the bits 0 0 0 1 0 1 0 0
abbrev pub raised_dots : List ℕ
raised_dots = (0x01 ∷ replicate 8 0xff) ++ (0x14 ∷ [])

abbrev pub raised_classes : List Class
raised_classes = classes_of worked (stream_of worked raised_dots)

-- under profile 58 29 8 10 12 36 73 73 106 106 139
pub record EveryDotRaised : Type 0 where
  -- the 64 intervals between the ones are of class 2, and those after them read 3 2 3 4 3
  pub ones : begins_with (replicate 64 2) (drop 8 raised_classes) ≡ true
  pub one_mark : begins_with (3 ∷ 2 ∷ 3 ∷ 4 ∷ 3 ∷ []) (drop 72 raised_classes) ≡ true
  -- which is no lock
  pub no_lock : lock_at raised_classes 72 ≡ false

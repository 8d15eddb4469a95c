-- Document 02, (xii): what holds the margin down, a field for each sentence. No lemmas here.
use Rattle.std.specs.Prelude.{ℕ, ◌+◌, ◌≤◌, ◌<◌, ◌≡◌, true, false, List, [], ◌∷◌, length, get_or, set}
use Rattle.timing.specs.declared.Profile.{Profile}
use Rattle.lengths.specs.Stream.{stream_of}
use Rattle.limits.specs.Sides.{sides}
use Rattle.limits.specs.Limits.{CrossesAt, Named, MovedBy, limits_of}
use Rattle.limits.specs.declared.side.Side.{Side}
use Rattle.limits.specs.declared.side.Edge.TheVariants.{Min, Rpt}
use Rattle.limits.specs.declared.side.Kind.TheVariants.{Both}
use Rattle.limits.specs.declared.Limit.{Limit}
use Rattle.demands.specs.Streams.{AcceptedProfile, AcceptedList, Moved, OutputEnough, Misread}
use Rattle.demands.specs.Demand3.{stated, Counterexample}

-- the stream of the one-byte list, and with that interval moved
abbrev pub its_stream : Profile → Limit → List ℕ
its_stream p x = stream_of p (x.item ∷ [])

abbrev pub changed_stream : Profile → Limit → List ℕ
changed_stream p x = set (its_stream p x) x.interval x.moved

-- demand 3's counterexample for one half clock more than the margin is this list and this stream
pub record ForDemand3 (p : Profile) (x : Limit) : Type 0 where
  pub counterexample : Counterexample p (stated p + 1)
  pub its_byte : counterexample.byte ≡ x.item
  pub its_change : counterexample.changed ≡ changed_stream p x

pub record Evidence (p : Profile) (x : Limit) : Type 0 where
  -- a one-byte list that has such a length, there
  pub one_byte : AcceptedList (x.item ∷ [])
  pub there : CrossesAt p x.side (x.item ∷ []) x.interval
  -- the lowest item number, of data and mark bytes
  pub lowest_item : (item k : ℕ) → AcceptedList (item ∷ []) → CrossesAt p x.side (item ∷ []) k → x.item ≤ item
  -- the first such interval in it
  pub first_interval : (k : ℕ) → CrossesAt p x.side (x.item ∷ []) k → x.interval ≤ k
  -- that interval moved by exactly margin + 1, towards the edge
  pub by_one_more : MovedBy x.side.above (stated p + 1) (get_or (its_stream p x) x.interval 0) x.moved
  pub moved_there : get_or (changed_stream p x) x.interval 0 ≡ x.moved
  -- and no other
  pub others_stay : (k : ℕ) → (k ≡ x.interval → ⊥) → get_or (changed_stream p x) k 0 ≡ get_or (its_stream p x) k 0
  -- as many intervals, each still a 16-bit number
  pub changed : Moved (stated p + 1) (its_stream p x) (changed_stream p x)
  -- the changed stream, given output enough, which there is, is refused or read as another list
  pub room : ℕ
  pub enough : (output : List ℕ) → room ≤ length output → OutputEnough p (changed_stream p x) output
  pub misread
      : (output : List ℕ)
      → OutputEnough p (changed_stream p x) output
      → Misread p (changed_stream p x) output (x.item ∷ [])
  -- so it is what demand 3's last sentence asks for
  pub for_demand_3 : ForDemand3 p x

-- the limits of some sides in their order: a side is named when, and only when, some length written on that side
-- crosses the edge if moved by margin + 1
pub data Answered (p : Profile) : List Side → List Limit → Type 0 where
  done : Answered p [] []
  named
      : {ss : List Side} {xs : List Limit} (x : Limit)
      → Named p x.side
      → Evidence p x
      → Answered p ss xs
      → Answered p (x.side ∷ ss) (x ∷ xs)
  passed_over
      : {ss : List Side} {xs : List Limit} (s : Side)
      → (Named p s → ⊥)
      → Answered p ss xs
      → Answered p (s ∷ ss) xs

-- under one accepted profile
pub record HeldDown (p : Profile) : Type 0 where
  -- each side in its order, named exactly when, with its evidence
  pub in_order : Answered p sides (limits_of p)
  -- at least one is named
  pub at_least_one : 0 < length (limits_of p)
  -- and there is no other side: no length is written below Min, and none above Rpt
  pub none_below_min : Named p (record { edge = Min; after = Both; above = false }) → ⊥
  pub none_above_rpt : Named p (record { edge = Rpt; after = Both; above = true }) → ⊥

abbrev pub WhatHoldsTheMarginDown : Type 0
WhatHoldsTheMarginDown = (p : Profile) → AcceptedProfile p → HeldDown p

-- Demand 3, a field for each sentence. No lemmas here.
use Rattle.std.specs.Prelude.{ℕ, ◌≤◌, ◌<◌, ◌≡◌, List, [], ◌∷◌, length}
use Rattle.timing.specs.declared.Profile.{Profile}
use Rattle.items.specs.Written.{written}
use Rattle.items.specs.Rule.{list_rule}
use Rattle.lengths.specs.Stream.{stream_of}
use Rattle.lengths.specs.Margin.{margin_rule, IsMargin}
use Rattle.demands.specs.Streams.{AcceptedProfile, AcceptedList, Moved, ReadsAs, OutputEnough, Misread}

-- the margin we state is the number that the margin operation answers
abbrev pub stated : Profile → ℕ
stated p = (margin_rule p).count

-- a one-byte list and a change of its stream where no interval is moved by more than n and the changed stream, given
-- output enough, is refused or read as another list. Every output of `room` places or more is enough
pub record Counterexample (p : Profile) (n : ℕ) : Type 0 where
  pub byte : ℕ
  pub accepted : AcceptedList (byte ∷ [])
  pub changed : List ℕ
  pub moved : Moved n (stream_of p (byte ∷ [])) changed
  pub room : ℕ
  pub enough : (output : List ℕ) → room ≤ length output → OutputEnough p changed output
  pub misread : (output : List ℕ) → OutputEnough p changed output → Misread p changed output (byte ∷ [])

-- under one accepted profile
pub record Unmistaken (p : Profile) : Type 0 where
  -- check orders already turned into bytes: the written bytes of every accepted list are a list of which the sentences
  -- below speak, and they have its stream
  pub check_orders_turned
      : (items : List ℕ)
      → (list_rule items).number ≡ 0
      → AcceptedList (written items) × (stream_of p (written items) ≡ stream_of p items)
  -- for every two different lists: whatever the drives do to the intervals of the two streams, each moved by at most
  -- the profile's margin, the streams are never equal
  pub never_equal
      : (us ws : List ℕ)
      → AcceptedList us
      → AcceptedList ws
      → (us ≡ ws → ⊥)
      → (changed_us changed_ws : List ℕ)
      → Moved (stated p) (stream_of p us) changed_us
      → Moved (stated p) (stream_of p ws) changed_ws
      → changed_us ≡ changed_ws
      → ⊥
  -- whatever is so done to the stream of any one such list, given output enough (its own length or more) it reads
  -- back as exactly the list that was written
  pub reads_back
      : (ws : List ℕ)
      → AcceptedList ws
      → (changed : List ℕ)
      → Moved (stated p) (stream_of p ws) changed
      → (output : List ℕ)
      → length ws ≤ length output
      → ReadsAs p changed output ws
  -- the margin we state is the largest: for one half clock more, and for every larger number
  pub largest : (n : ℕ) → stated p < n → Counterexample p n
  -- and it is the margin defined under "Profile"
  pub papers_margin : IsMargin p (stated p)

abbrev pub Demand3 : Type 0
Demand3 = (p : Profile) → AcceptedProfile p → Unmistaken p

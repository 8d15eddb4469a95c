-- Document 01, "From bits to cells", the terms of demand 3. No lemmas here.
use Rattle.std.specs.Prelude.{ℕ, ◌+◌, ◌≤◌, ◌<◌, ◌^◌, ◌≡◌, false, List, length, get_or, take}
use Rattle.lists.specs.Place.{anywhere}
use Rattle.refusal.specs.Answer.{accepted}
use Rattle.items.specs.Item.{is_check}
use Rattle.items.specs.Rule.{list_rule}
use Rattle.timing.specs.Profile.{profile_rule}
use Rattle.timing.specs.declared.Profile.{Profile}
use Rattle.codec.specs.Reader.{read_rule, read_output}

-- a profile is accepted if neither 1 nor 2 turns it away
abbrev pub AcceptedProfile : Profile → Type 0
AcceptedProfile p = (profile_rule p).number ≡ 0

-- a list of data and mark bytes, check orders already turned into bytes, that neither 4 nor 3 turns away
pub record AcceptedList (ws : List ℕ) : Type 0 where
  pub passes : (list_rule ws).number ≡ 0
  pub no_check_orders : anywhere is_check ws ≡ false

-- a changed stream has as many intervals in the same order, each still an unsigned 16-bit number, and none is moved
-- by more than m
pub record Moved (m : ℕ) (stream changed : List ℕ) : Type 0 where
  pub as_many : length changed ≡ length stream
  pub sixteen_bits : (k : ℕ) → k < length changed → get_or changed k 0 < 2 ^ 16
  pub no_longer : (k : ℕ) → k < length changed → get_or changed k 0 ≤ get_or stream k 0 + m
  pub no_shorter : (k : ℕ) → k < length changed → get_or stream k 0 ≤ get_or changed k 0 + m

-- it reads back as a list if the strip reader accepts it, the count given is that list's length, and the front of the
-- output holds that list's items in order, each mark as a mark
pub record ReadsAs (p : Profile) (changed output ws : List ℕ) : Type 0 where
  pub answer : read_rule p changed (length output) ≡ accepted (length ws)
  pub front : take (length ws) (read_output p changed output) ≡ ws

-- output enough is every length at which 9 is not answered
abbrev pub OutputEnough : Profile → List ℕ → List ℕ → Type 0
OutputEnough p changed output = (read_rule p changed (length output)).number ≡ 9 → ⊥

-- refused, or read as another list
pub data Misread (p : Profile) (changed output ws : List ℕ) : Type 0 where
  turned_away : ((read_rule p changed (length output)).number ≡ 0 → ⊥) → Misread p changed output ws
  another : (us : List ℕ) → ReadsAs p changed output us → (us ≡ ws → ⊥) → Misread p changed output ws

-- From sectors to flux, back to a set, and merged with another pass: what joins the layers. No lemmas here.
use Rattle.std.specs.Prelude.{ℕ, ◌≤◌, ◌≡◌, Bool, true, false, not, ◌&&◌, ◌||◌, eqb, ltb, length}
use mathlib.Core.List.{List, [], ◌∷◌, map, flat_map}
use Rattle.std.proofs.Math.Option.{some}
use Rattle.lists.specs.Place.{anywhere, everywhere}
use Rattle.lists.specs.Filled.{filled}
use Rattle.refusal.specs.Answer.{accepted}
use Rattle.timing.specs.declared.Profile.{Profile}
use Rattle.lengths.specs.Stream.{stream_of}
use Rattle.sets.specs.Set.{Sector as SetSector, set_bytes, set_of}
use Rattle.sets.specs.Held.{numbers, held_of, is_twice}
use Rattle.merge.specs.Merge.{as_list, same_bytes}
use Rattle.merge.specs.Rule.{merge_rule, merge_output}
use Rattle.track_set.specs.TrackSectors.{sectors_found, track_rule, track_output}
use Rattle.demands.specs.Streams.{AcceptedProfile, Moved}
use Rattle.demands.specs.Demand3.{stated}
use Rattle.readback.specs.TrackIndexed.{Sector, AllMade, track_items}

-- ---- the sectors

-- no number twice
unfoldable pub other_number : Sector → Sector → Bool
other_number s t = not (eqb s.sector t.sector)

abbrev pub DifferentNumbers : List Sector → Type 0
DifferentNumbers [] = Unit {0}
DifferentNumbers (s ∷ ss) = (everywhere (other_number s) ss ≡ true) × DifferentNumbers ss

-- data bytes alone, as the maker takes them
unfoldable pub is_data_byte : ℕ → Bool
is_data_byte b = ltb b 256

abbrev pub AllData : List Sector → Type 0
AllData [] = Unit {0}
AllData (s ∷ ss) = (everywhere is_data_byte s.bytes ≡ true) × AllData ss

-- a sector as a set has it, its sum holding
abbrev pub as_read : Sector → SetSector
as_read s = record { number = s.sector; code = s.code; holds = true; bytes = s.bytes }

-- these sectors by number: of each number in ascending order what they have
unfoldable pub by_number : List Sector → List SetSector
by_number ss = flat_map (λ n. as_list (held_of n (map as_read ss))) numbers

-- ---- another pass over them

unfoldable pub of_number : SetSector → Sector → Bool
of_number o s = eqb s.sector o.number

unfoldable pub is_same : SetSector → Sector → Bool
is_same o s = of_number o s && (eqb o.code s.code && same_bytes o.bytes s.bytes)

-- a list of bytes that is a set, whose numbers are among these, none twice, and whose good sectors equal these in code
-- and data
pub record OtherPass (ss : List Sector) (other : List ℕ) : Type 0 where
  pub sectors : List SetSector
  pub parses : set_of other ≡ some sectors
  pub among : everywhere (λ o. anywhere (of_number o) ss) sectors ≡ true
  pub once : (n : ℕ) → is_twice (held_of n sectors) ≡ false
  pub good_are_same : everywhere (λ o. not o.holds || anywhere (is_same o) ss) sectors ≡ true

-- ---- what is read, and merged

-- given room for these sectors, the merge of two sets is accepted and stores exactly them, by number, all good
abbrev pub MergesTo : List Sector → List ℕ → List ℕ → Type 0
MergesTo ss first second =
    (old : List ℕ)
    → length (set_bytes (by_number ss)) ≤ length old
    → (merge_rule first second (length old) ≡ accepted (length ss))
    × (merge_output first second old ≡ filled (set_bytes (by_number ss)) old)

pub record TrackReads (p : Profile) (changed : List ℕ) (ss : List Sector) : Type 0 where
  -- the sectors found, in the index's order: exactly these by number, every sum holding
  pub found : sectors_found p changed ≡ by_number ss
  -- given room, the set is accepted and stored
  pub set_read
      : (old : List ℕ)
      → length (set_bytes (by_number ss)) ≤ length old
      → (track_rule p changed (length old) ≡ accepted (length ss))
      × (track_output p changed old ≡ filled (set_bytes (by_number ss)) old)
  -- merged with any other pass, as the first or the second, it gives exactly these sectors again
  pub merged_first
      : (other : List ℕ) → OtherPass ss other → MergesTo ss (set_bytes (sectors_found p changed)) other
  pub merged_second
      : (other : List ℕ) → OtherPass ss other → MergesTo ss other (set_bytes (sectors_found p changed))

-- up to 32 sectors with different numbers, written one after the other, under any accepted profile, every interval moved
-- by at most the margin
abbrev pub MadeTracksAreRead : Type 0
MadeTracksAreRead =
    (ss : List Sector)
    → length ss ≤ 32
    → AllMade ss
    → AllData ss
    → DifferentNumbers ss
    → (p : Profile)
    → AcceptedProfile p
    → (changed : List ℕ)
    → Moved (stated p) (stream_of p (track_items ss)) changed
    → TrackReads p changed ss

use Prim.Native.Nat.{ℕ, ◌-◌, ◌≤◌}
use mathlib.Core.Path.{◌≡◌}
use mathlib.Core.List.{List, map}
use lib.ListN.{length}
use Rattle.timing.specs.Profile.{profile_rule}
use Rattle.timing.specs.declared.Profile.{Profile}
use Rattle.entries.specs.declared.Entry.{Entry}
use Rattle.track.specs.machine.Insertion.{slid_in}
use Rattle.track.specs.HandedBack.{index_entry_of}
use Rattle.track.specs.declared.index.IndexEntry.{IndexEntry}
use Rattle.track.proofs.GatherLaws.{Gathered}
use Rattle.track.proofs.index.index_track.Given as goal

-- under an accepted profile, the entries gathered as they are handed back
pub record HandedOver (p : Profile) (ds : List ℕ) (entries : List IndexEntry) (count start : ℕ) : Type 0 where
  pub fair : (profile_rule p).number ≡ 0
  pub found : List Entry
  pub gathered : Gathered p ds found count start
  pub handed : entries ≡ map index_entry_of found

abbrev pub invariant-slide : goal.invariant-slide
invariant-slide l =
    (l.at ≤ l.initial.at) × (slid_in l.entries l.at l.new ≡ slid_in l.initial.entries l.initial.at l.new)

abbrev pub decreases-slide : goal.decreases-slide
decreases-slide l = l.at

abbrev pub invariant-search : goal.invariant-search
invariant-search l = HandedOver l.p l.intervals l.entries l.count l.start

abbrev pub decreases-search : goal.decreases-search
decreases-search l = length l.intervals - l.start

-- Why a track of made sectors is indexed: its sectors are found one after the other, and put in order. Rests on no axiom.
use Prim.Native.Nat.{ℕ, suc, ◌≤◌, ◌<◌}
use mathlib.Core.Path.{◌≡◌, refl, sym, ap, ◌∙◌}
use mathlib.Core.Bool.{true}
use mathlib.Core.List.{List, ◌∷◌, ◌++◌, []}
use native.Mathlib.Omega.{arith}
use borrow.Author.Tests.{le-ltb, ltb-true, leb-true}
use lib.ListN.{length}
use Rattle.lists.specs.Place.{everywhere}
use Rattle.lists.proofs.PlaceLaws.{everywhere_of_none, everywhere_of_passing, everywhere_passes_at_first}
use Rattle.lists.proofs.PlaceLaws.{everywhere_in_rest}
use Rattle.refusal.specs.Answer.{accepted}
use Rattle.timing.specs.declared.Profile.{Profile}
use Rattle.items.specs.Written.{written}
use Rattle.entries.specs.Entries.{entries_of}
use Rattle.entries.specs.declared.Entry.{Entry}
use Rattle.track.specs.Order.{is_before, in_order, Ascending}
use Rattle.track.specs.Index.{crowd_rule, index_rule, padded, handed_back, index_entries}
use Rattle.track.proofs.OrderLaws.{later_place}
use Rattle.track.proofs.InOrderLaws.{is_later, PlacesAscend, in_order_stays}
use Rattle.track.proofs.FoundLaws.{places_ascend}
use Rattle.demands.specs.Streams.{AcceptedProfile}
use Rattle.readback.specs.TrackIndexed.{Sector, items_of_sector, entry_behind, entries_behind, not_below, NumbersAscend}
use Rattle.readback.specs.TrackIndexed.{TrackIndexed, MadeTracksAreIndexed}
use Rattle.readback.proofs.TrackFound.{track_found}

pub as_many : (ss : List Sector) (before : List ℕ) → length (entries_behind before ss) ≡ length ss
unfolding entries_behind
as_many [] before = refl
as_many (s ∷ ss) before = ap suc (as_many ss _)

-- behind a lower place, and not of a lower number
all_behind
    : (e : Entry) (s : Sector) (before : List ℕ) (ss : List Sector)
    → e.sector ≡ s.sector
    → everywhere (not_below s) ss ≡ true
    → everywhere (is_later e.place) (entries_behind before ss) ≡ true
    → everywhere (is_before e) (entries_behind before ss) ≡ true
unfolding entries_behind not_below is_later is_before
all_behind e s before [] same numbers places = everywhere_of_none (is_before e)
all_behind e s before (t ∷ ss) same numbers places =
    let first = entry_behind before t in
    let rest = entries_behind (before ++ written (items_of_sector t)) ss in
    let number : s.sector ≤ t.sector = leb-true _ _ (everywhere_passes_at_first (not_below s) t ss numbers) in
    let place : e.place < first.place =
    ltb-true _ _ (everywhere_passes_at_first (is_later e.place) first rest places) in
    everywhere_of_passing (is_before e) first rest
    (later_place e.sector e.place t.sector first.place (omega arith) place)
    ∙ all_behind e s (before ++ written (items_of_sector t)) ss same (everywhere_in_rest (not_below s) t ss numbers)
    (everywhere_in_rest (is_later e.place) first rest places)

entries_ascend
    : (before : List ℕ) (ss : List Sector)
    → NumbersAscend ss
    → PlacesAscend (entries_behind before ss)
    → Ascending (entries_behind before ss)
unfolding entries_behind
entries_ascend before [] numbers places = tt
entries_ascend before (s ∷ ss) (first, numbers) (later, places) = (
  all_behind (entry_behind before s) s (before ++ written (items_of_sector s)) ss refl first later,
  entries_ascend (before ++ written (items_of_sector s)) ss numbers places,
)

indexed_by_entries
    : (ss : List Sector) (p : Profile) (changed : List ℕ)
    → length ss ≤ 32
    → AcceptedProfile p
    → entries_of p changed ≡ entries_behind [] ss
    → TrackIndexed p changed ss
unfolding index_rule crowd_rule index_entries handed_back
indexed_by_entries ss p changed few accepts all =
    let count = as_many ss [] in
    let answer : index_rule p changed ≡ accepted (length ss) =
    rw (accepts, all, le-ltb 32 (length (entries_behind [] ss)) (omega arith), count) in
    let entries : index_entries p changed ≡ padded (in_order (entries_behind [] ss)) = rw (answer, all) in
    record {
      answer = answer;
      entries = entries;
      as_written = λ ascend.
          entries
          ∙ ap padded (sym (in_order_stays (entries_behind [] ss)
          (entries_ascend [] ss ascend (rw (← all) (places_ascend p changed)))));
    }

pub made_tracks_are_indexed : MadeTracksAreIndexed
made_tracks_are_indexed ss few made p accepts changed moved =
    indexed_by_entries ss p changed few accepts (track_found ss made p accepts changed moved).0

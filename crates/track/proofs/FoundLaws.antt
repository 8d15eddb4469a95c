-- The entries found stand in the order of their ID places, since each search starts behind the lock before it; so the
-- index is the only list of them in order. Rests on no axiom.
use Prim.Native.Nat.{ℕ, zero, suc, ◌-◌, ◌≤◌, ◌<◌}
use mathlib.Core.Path.{◌≡◌, refl, sym, ◌∙◌}
use mathlib.Core.Bool.{Bool, true, false, cond}
use mathlib.Core.List.{List, [], ◌∷◌, ◌++◌}
use native.Mathlib.Omega.{arith}
use borrow.Author.Tests.{ltb-true, lt-ltb}
use lib.ListN.{length, drop}
use Rattle.lists.specs.Place.{everywhere}
use Rattle.lists.proofs.BoolLaws.{both}
use Rattle.lists.proofs.PlaceLaws.{everywhere_of_none, everywhere_of_passing, everywhere_passes_at_first}
use Rattle.lists.proofs.PlaceLaws.{everywhere_in_rest, everywhere-append}
use Rattle.timing.specs.declared.Profile.{Profile}
use Rattle.entries.specs.FieldKinds.{is_id}
use Rattle.entries.specs.Entries.{has_lock, lock_place, entry_at, next_start, entries_at, entries_by, entries_from, entries_of}
use Rattle.entries.specs.declared.Entry.{Entry}
use Rattle.entries.proofs.SearchLaws.{lock_is_ahead, lock_is_before_next}
use Rattle.track.specs.Claims.{IndexesAreInOneOrder}
use Rattle.track.proofs.InOrderLaws.{is_later, PlacesAscend, ordered_ascends, ordered_has_each, only_in_order}

-- ---- behind a place

later_by : (k m : ℕ) → k ≤ m → (es : List Entry) → everywhere (is_later m) es ≡ true → everywhere (is_later k) es ≡ true
unfolding is_later
later_by k m h [] all = everywhere_of_none (is_later k)
later_by k m h (e ∷ es) all =
    let behind = ltb-true m e.place (everywhere_passes_at_first (is_later m) e es all) in
    everywhere_of_passing (is_later k) e es (lt-ltb k e.place (omega arith))
    ∙ later_by k m h es (everywhere_in_rest (is_later m) e es all)

pub places_of_front : (es fs : List Entry) → PlacesAscend (es ++ fs) → PlacesAscend es
places_of_front [] fs places = tt
places_of_front (e ∷ es) fs (later, places) = (
  (both (everywhere (is_later e.place) es) (everywhere (is_later e.place) fs)
      (sym (everywhere-append (is_later e.place) es fs) ∙ later)).0,
  places_of_front es fs places,
)

-- ---- search after search

module _ (p : Profile) (ds : List ℕ) where
  abbrev Behind : ℕ → List Entry → Type 0
  Behind start es = (everywhere (is_later start) es ≡ true) × PlacesAscend es

  behind_by
      : (t : Bool) (start k : ℕ) (rest : List Entry)
      → start < k
      → Behind k rest
      → Behind start (cond t (entry_at p ds k ∷ []) [] ++ rest)
  unfolding entry_at is_later
  behind_by true start k rest h (later, places) = (
    everywhere_of_passing (is_later start) (entry_at p ds k) rest (lt-ltb start k h) ∙ later_by start k (omega arith) rest later,
    (later, places),
  )
  behind_by false start k rest h (later, places) = (later_by start k (omega arith) rest later, places)

  found_behind : (searches start : ℕ) → Behind start (entries_by p ds searches start)
  unfolding entries_by entries_at
  found_behind zero start = (everywhere_of_none (is_later start), tt)
  found_behind (suc searches) start =
      elim (has_lock p ds start) as (λ t.
      has_lock p ds start ≡ t
      → Behind start
      (cond t
      (entries_at p ds (lock_place p ds start) ++ entries_by p ds searches (next_start p ds (lock_place p ds start)))
      [])) [
        | true ↦ λ lock.
            let k = lock_place p ds start in
            let ahead = lock_is_ahead p ds start lock in
            let (later, places) = found_behind searches (next_start p ds k) in
            behind_by (is_id p (drop k ds)) start k _ (omega arith)
            (later_by k (next_start p ds k) (lock_is_before_next p ds k (omega arith)) _ later, places)
        | false ↦ λ none. (everywhere_of_none (is_later start), tt)
      ]
      refl

  pub places_ascend : PlacesAscend (entries_of p ds)
  unfolding entries_of entries_from
  places_ascend = (found_behind (length ds - 0) 0).1

pub indexes_are_in_one_order : IndexesAreInOneOrder
indexes_are_in_one_order p ds =
    record {
      orders =
          record {
            same_entries = ordered_has_each (entries_of p ds);
            ascends = ordered_ascends (entries_of p ds) (places_ascend p ds);
          };
      only = λ other is. only_in_order is.same_entries is.ascends;
    }

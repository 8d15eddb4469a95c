-- What one search adds to the entries of a track, by what it finds: no lock, a lock at which no entry begins, or an entry.
-- Rests on no axiom.
use Prim.Native.Nat.{ℕ, ◌<◌}
use mathlib.Core.Path.{◌≡◌, refl, ◌∙◌}
use mathlib.Core.Bool.{Bool, true, false, cond}
use mathlib.Core.List.{List, [], ◌∷◌, ◌++◌}
use native.Mathlib.Omega.{arith}
use lib.ListN.{length, drop}
use Rattle.timing.specs.declared.Profile.{Profile}
use Rattle.entries.specs.FieldKinds.{is_id}
use Rattle.entries.specs.Entries.{has_lock, lock_place, entry_at, next_start, entries_at, entries_from}
use Rattle.entries.specs.machine.Steps.{step_at, step_from}
use Rattle.entries.specs.declared.Entry.{Entry}
use Rattle.entries.specs.declared.Step.{Step}
use Rattle.entries.specs.declared.Step.TheVariants.{End, Other, Begins}
use Rattle.entries.proofs.SearchLaws.{lock_is_ahead, next_is_ahead, search_goes_on}

-- a lock was found that adds these entries, and the next search starts there
pub record Goes (p : Profile) (ds : List ℕ) (start next : ℕ) (adds : List Entry) : Type 0 where
  pub lock : has_lock p ds start ≡ true
  pub here : entries_at p ds (lock_place p ds start) ≡ adds
  pub on : next_start p ds (lock_place p ds start) ≡ next

module _ (p : Profile) (ds : List ℕ) (start : ℕ) where
  abbrev k : ℕ
  k = lock_place p ds start

  abbrev Means : Step → Type 0
  Means End = has_lock p ds start ≡ false
  Means (Other next) = Goes p ds start next []
  Means (Begins entry next) = Goes p ds start next (entry ∷ [])

  means_by
      : (t u : Bool)
      → has_lock p ds start ≡ t
      → is_id p (drop k ds) ≡ u
      → Means (cond t (cond u (Begins (entry_at p ds k) (next_start p ds k)) (Other (next_start p ds k))) End)
  unfolding entries_at
  means_by true true lock id = record { lock = lock; here = rw id; on = refl }
  means_by true false lock id = record { lock = lock; here = rw id; on = refl }
  means_by false true lock id = lock
  means_by false false lock id = lock

  step_means : (s : Step) → s ≡ step_from p ds start → Means s
  unfolding step_from step_at
  step_means s e = rw e (means_by (has_lock p ds start) (is_id p (drop k ds)) refl refl)

  pub end_means : End ≡ step_from p ds start → has_lock p ds start ≡ false
  end_means e = step_means End e

  pub other_means : (next : ℕ) → Other next ≡ step_from p ds start → Goes p ds start next []
  other_means next e = step_means (Other next) e

  pub begins_means
      : (entry : Entry) (next : ℕ) → Begins entry next ≡ step_from p ds start → Goes p ds start next (entry ∷ [])
  begins_means entry next e = step_means (Begins entry next) e

module _ {p : Profile} {ds : List ℕ} {start next : ℕ} {adds : List Entry} (goes : Goes p ds start next adds) where
  pub goes_to : entries_from p ds start ≡ adds ++ entries_from p ds next
  goes_to = search_goes_on p ds start goes.lock ∙ rw (goes.here, goes.on)

  pub goes_ahead : (start < next) × (start < length ds)
  goes_ahead =
      let ahead = lock_is_ahead p ds start goes.lock in
      let after = rw goes.on at (next_is_ahead p ds start goes.lock) in
      (after, omega arith)

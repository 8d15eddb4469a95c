-- The clearances of a list, one for each step of the cursor, and the least of them: what it is no more than, and that
-- it is one of them. Rests on no axiom.
use Rattle.std.proofs.Common.{◌≡◌, ℕ, zero, suc, ◌<◌, ◌≤◌, List, [], ◌∷◌, length, get_or, take, drop, refl, ap, arith, drop-cons}
use Rattle.lists.proofs.SpanLaws.{least_of_none, least_of_one, least_is_no_more as list_least_is_no_more}
use Rattle.lists.proofs.SpanLaws.{least_is_of_one as list_least_is_of_one}
use Rattle.timing.specs.Class.{cursor_past, cursor_after}
use Rattle.timing.specs.declared.cursor.Cursor.{Cursor}
use Rattle.clearance.specs.Clearance.{clearance_in, clearances_from, least_from}

-- the turn of a loop over a list: the interval at a place, and those after it
pub clearances_here
    : (c : Cursor) (ds : List ℕ) (k : ℕ)
    → k < length ds
    → clearances_from c (drop k ds)
    ≡ clearance_in c (get_or ds k 0) ∷ clearances_from (cursor_past c (get_or ds k 0)) (drop (suc k) ds)
unfolding clearances_from
clearances_here c ds k h = rw (drop-cons ds k 0 h)

pub clearances_count : (c : Cursor) (ds : List ℕ) → length (clearances_from c ds) ≡ length ds
unfolding clearances_from
clearances_count c [] = refl
clearances_count c (d ∷ ds) = ap suc (clearances_count (cursor_past c d) ds)

pub clearance_at
    : (c : Cursor) (ds : List ℕ) (k : ℕ)
    → k < length ds
    → get_or (clearances_from c ds) k 0 ≡ clearance_in (cursor_after c (take k ds)) (get_or ds k 0)
unfolding clearances_from cursor_after
clearance_at c [] k h = absurd (omega arith)
clearance_at c (d ∷ ds) zero h = refl
clearance_at c (d ∷ ds) (suc k) h = clearance_at (cursor_past c d) ds k (omega arith)

-- ---- the least

pub least_from_none : (c : Cursor) (ds : List ℕ) → length ds ≡ 0 → least_from c ds ≡ 0
unfolding least_from clearances_from
least_from_none c [] h = least_of_none
least_from_none c (d ∷ ds) h = absurd (omega arith)

pub least_from_one : (c : Cursor) (d : ℕ) → least_from c (d ∷ []) ≡ clearance_in c d
unfolding least_from clearances_from
least_from_one c d = least_of_one (clearance_in c d)

module _ (c : Cursor) (ds : List ℕ) where
  pub least_is_no_more
      : (k : ℕ) → k < length ds → least_from c ds ≤ clearance_in (cursor_after c (take k ds)) (get_or ds k 0)
  unfolding least_from
  least_is_no_more k h =
      let there : k < length (clearances_from c ds) = rw clearances_count h in
      rw (clearance_at c ds k h) at (list_least_is_no_more (clearances_from c ds) k there)

  pub least_is_of_one
      : 0 < length ds
      → (k : ℕ) × (k < length ds) × (clearance_in (cursor_after c (take k ds)) (get_or ds k 0) ≡ least_from c ds)
  unfolding least_from
  least_is_of_one some =
      let (k, there, same) = list_least_is_of_one (clearances_from c ds) (rw clearances_count some) in
      let h : k < length ds = rw clearances_count at there in
      (k, h, cc (clearance_at c ds k h))

  -- what each interval has, the least has
  pub least_is_at_least
      : (e : ℕ)
      → 0 < length ds
      → ((k : ℕ) → k < length ds → e ≤ clearance_in (cursor_after c (take k ds)) (get_or ds k 0))
      → e ≤ least_from c ds
  least_is_at_least e some each = let (k, h, same) = least_is_of_one some in rw (← same) (each k h)

-- The search goes by locks: a lock that is found stands at least 64 intervals after its start and within the list, so
-- each search starts after the one before it, and as many searches as there are intervals are enough. Rests on no
-- axiom.
use Rattle.std.specs.Prelude.{Result, Ok, Err}
use Prim.Native.Nat.{ℕ, zero, suc, ◌+◌, ◌-◌, ◌<◌, ◌≤◌}
use mathlib.Core.Path.{◌≡◌, refl, sym, ap, ◌∙◌}
use mathlib.Core.Bool.{Bool, true, false, cond, ◌&&◌, true≢false}
use mathlib.Core.List.{List, [], ◌++◌}
use mathlib.Mathlib.Data.Bool.Basic.{eq-false_of_not-eq-true}
use native.Mathlib.Omega.{arith}
use borrow.Author.Tests.{eqb-true, leb-true}
use lib.Dec.{eqb}
use lib.ListN.{length, drop, length-drop}
use Rattle.lists.proofs.BoolLaws.{both}
use Rattle.refusal.specs.Table.{number_of, place_of}
use Rattle.refusal.specs.Answer.{Answer, accepted, refused, counted_answer}
use Rattle.refusal.specs.declared.Refusal.{Refusal}
use Rattle.refusal.proofs.AnswerLaws.{number_is_not_zero, first_refusal_accepts, first_refusal_passes}
use Rattle.timing.specs.Profile.{profile_rule}
use Rattle.timing.specs.Class.{classes_of}
use Rattle.timing.specs.declared.Profile.{Profile}
use Rattle.timing.specs.declared.Class.{Class}
use Rattle.timing.proofs.ClassLaws.{classes_length}
use Rattle.locks.specs.Lock.{lock_at, lock_from, search_rule, find_rule}
use Rattle.locks.proofs.FinderLaws.{lock_is_within}
use Rattle.locks.proofs.FirstLockLaws.{lock_from_found, search_finds}
use Rattle.entries.specs.FieldKinds.{is_id, data_bytes}
use Rattle.entries.specs.Entries.{has_lock, lock_place, field_end, has_data, id_byte, entry_end, next_start, entries_at}
use Rattle.entries.specs.Entries.{entries_by, entries_from}
use Rattle.entries.specs.Claims.{TracksGoByLocks}
use Rattle.entries.specs.declared.Entry.{Entry}
use Rattle.entries.proofs.FieldLaws.{field_ends_within}

-- ---- what the finder's answer says

module _ (p : Profile) (ds : List ℕ) (start : ℕ) where
  pub refused_is_no_lock
      : (r : Refusal) → refused (number_of r) (place_of r) ≡ find_rule p ds start → has_lock p ds start ≡ false
  unfolding has_lock
  refused_is_no_lock r e = rw (sym e, number_is_not_zero r)

  pub found_is_lock
      : (k : ℕ) → accepted k ≡ find_rule p ds start → (has_lock p ds start ≡ true) × (lock_place p ds start ≡ k)
  unfolding has_lock lock_place
  found_is_lock k e = (cc, sym (ap (λ (a : Answer). a.count) e))

  -- ---- where a lock stands

  abbrev classes : List Class
  classes = classes_of p (drop start ds)

  counted
      : (t : Bool) (a : Answer)
      → eqb a.number 0 ≡ t
      → (cond t (accepted (start + a.count)) a).number ≡ 0
      → (a.number ≡ 0) × ((cond t (accepted (start + a.count)) a).count ≡ start + a.count)
  counted true a e h = (eqb-true _ _ e, refl)
  counted false a e h = absurd (true≢false (cc))

  stands_after_64 : (k : ℕ) → lock_at classes k ≡ true → 64 ≤ k
  unfolding lock_at
  stands_after_64 k e = leb-true 64 k (both _ _ (both _ _ e).0).0

  pub lock_is_ahead
      : has_lock p ds start ≡ true → (start + 64 ≤ lock_place p ds start) × (lock_place p ds start < length ds)
  unfolding has_lock lock_place find_rule search_rule
  lock_is_ahead e =
      let found = eqb-true _ _ e in
      let (fair, later) = first_refusal_accepts (profile_rule p) _ found in
      let (lock, count) = counted _ (lock_from classes 0) refl later in
      let first = lock_from_found classes 0 lock in
      let low = stands_after_64 _ first.stands in
      let high = lock_is_within classes _ first.stands in
      let long = classes_length p (drop start ds) ∙ length-drop start ds in
      let passes = first_refusal_passes (profile_rule p) (search_rule p ds start) fair in
      let place = ap (λ (a : Answer). a.count) passes ∙ count in
      (omega arith, omega arith)

  -- ---- what the search's answer says

  pub record Lock (k : ℕ) : Type 0 where
    pub lock : has_lock p ds start ≡ true
    pub place : lock_place p ds start ≡ k
    pub within : k < length ds

  abbrev pub Searched : (Result ℕ Refusal) → Type 0
  Searched (Ok k) = Lock k
  Searched (Err r) = has_lock p ds start ≡ false

  search_says : (answer : (Result ℕ Refusal)) → counted_answer answer ≡ find_rule p ds start → Searched answer
  search_says (Ok k) e =
      let (lock, place) = found_is_lock k e in
      record { lock = lock; place = place; within = omega (arith, (lock_is_ahead lock).1) }
  search_says (Err r) e = refused_is_no_lock r e

  pub search_means
      : (profile_rule p).number ≡ 0
      → (found : (Result ℕ Refusal))
      → counted_answer found ≡ search_rule p ds start
      → (answer : (Result ℕ Refusal))
      → found ≡ answer
      → Searched answer
  search_means fair found e answer q =
      search_says answer (sym (ap counted_answer q) ∙ e ∙ search_finds p ds start fair)

module _ (p : Profile) (ds : List ℕ) where
  pub none_past_end : (start : ℕ) → length ds ≤ start → has_lock p ds start ≡ false
  none_past_end start h =
      eq-false_of_not-eq-true (λ e. let ahead = lock_is_ahead p ds start e in omega arith)

  -- ---- where the search goes on

  either_way
      : (t : Bool) (low high other : ℕ) → (t ≡ true → low ≤ high) → low ≤ other → low ≤ cond t high other
  either_way true low high other first second = first refl
  either_way false low high other first second = second

  entry_ends_ahead : (start code : ℕ) → start ≤ entry_end p ds start code
  unfolding entry_end has_data
  entry_ends_ahead start code =
      either_way (has_lock p ds start && _) start _ start (λ e.
      let ahead = lock_is_ahead p ds start (both _ _ e).0 in
      omega (arith, (field_ends_within p ds (lock_place p ds start) (data_bytes code) (omega arith)).0))
      (omega arith)

  pub lock_is_before_next : (k : ℕ) → k ≤ length ds → k ≤ next_start p ds k
  unfolding next_start
  lock_is_before_next k within =
      either_way (is_id p (drop k ds)) k _ (suc k) (λ id.
      let ends = field_ends_within p ds k 10 within in
      omega (arith, entry_ends_ahead (field_end p ds k 10) (id_byte p ds k 7)))
      (omega arith)

  pub next_is_ahead : (start : ℕ) → has_lock p ds start ≡ true → start < next_start p ds (lock_place p ds start)
  next_is_ahead start e =
      let k = lock_place p ds start in
      let ahead = lock_is_ahead p ds start e in
      omega (arith, lock_is_before_next k (omega arith))

  -- ---- enough searches

  search_by
      : (t : Bool) (first rest other : List Entry)
      → (t ≡ true → rest ≡ other)
      → cond t (first ++ rest) [] ≡ cond t (first ++ other) []
  search_by true first rest other on = rw on
  search_by false first rest other on = refl

  same_searches
      : (m n start : ℕ)
      → length ds ≤ start + m
      → length ds ≤ start + n
      → entries_by p ds m start ≡ entries_by p ds n start
  unfolding entries_by
  same_searches zero zero start a b = refl
  same_searches zero (suc n) start a b = rw (none_past_end start (omega arith))
  same_searches (suc m) zero start a b = rw (none_past_end start (omega arith))
  same_searches (suc m) (suc n) start a b =
      search_by (has_lock p ds start) (entries_at p ds (lock_place p ds start)) _ _ (λ e.
      let ahead = next_is_ahead start e in
      same_searches m n (next_start p ds (lock_place p ds start)) (omega arith) (omega arith))

  one_more : (start : ℕ) → entries_from p ds start ≡ entries_by p ds (suc (length ds - start)) start
  unfolding entries_from
  one_more start = same_searches (length ds - start) _ start (omega arith) (omega arith)

  pub search_ends : (start : ℕ) → has_lock p ds start ≡ false → entries_from p ds start ≡ []
  unfolding entries_by
  search_ends start e = one_more start ∙ rw e

  pub search_goes_on
      : (start : ℕ)
      → has_lock p ds start ≡ true
      → entries_from p ds start
      ≡ entries_at p ds (lock_place p ds start) ++ entries_from p ds (next_start p ds (lock_place p ds start))
  unfolding entries_from entries_by
  search_goes_on start e =
      let ahead = next_is_ahead start e in
      let next = next_start p ds (lock_place p ds start) in
      one_more start
      ∙ rw (e, same_searches (length ds - start) (length ds - next) next (omega arith) (omega arith))

pub tracks_go_by_locks : TracksGoByLocks
tracks_go_by_locks p ds = record { goes_on = search_goes_on p ds; ends = search_ends p ds }

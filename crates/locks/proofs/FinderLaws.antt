-- Laws of the first lock: where no lock stands the search goes on, past a broken run at once; it ends at a lock or at
-- the end of the list. Rests on no axiom.
use Prim.Native.Nat.{ℕ, zero, suc, pred, ◌+◌, ◌-◌, ◌<◌, ◌≤◌}
use mathlib.Core.Path.{◌≡◌, refl, sym, ap, ap₂, ◌∙◌}
use mathlib.Core.Bool.{true, false, and-false, true≢false}
use mathlib.Core.List.{List}
use mathlib.Core.Logic.{⊎_elim}
use native.Mathlib.Omega.{arith}
use native.Mathlib.Nat.{eq-zero-or-pos}
use borrow.Author.Tests.{le-leb, lt-leb}
use lib.ListN.{length, get_or, drop, drop_of_length-le}
use lib.Seq.{get_or-drop, drop-cons}
use Rattle.refusal.specs.Answer.{accepted, refused}
use Rattle.timing.specs.declared.Class.{Class}
use Rattle.timing.specs.declared.Class.TheVariants.{Narrow, Two}
use Rattle.runs.specs.machine.Scan.{Twos}
use Rattle.locks.specs.Lock.{mark_ahead, lock_at, first_lock, lock_from}
use Rattle.locks.proofs.LockLaws.{run_ahead, run_broken, no_mark_of_none, two_begins_no_mark}

module _ (cs : List Class) (k : ℕ) where
  -- ---- where a lock stands

  pub lock_stands : 64 ≤ k → Twos cs (k - 64) k → mark_ahead (drop k cs) ≡ true → lock_at cs k ≡ true
  unfolding lock_at
  lock_stands far run mark =
      rw (
        le-leb 64 k far,
        run_ahead 64 (drop (k - 64) cs)
            (λ j h. get_or-drop (k - 64) cs j Narrow ∙ run (k - 64 + j) (omega arith) (omega arith)),
      )
      mark

  -- ---- where none stands

  no_lock_below_64 : k < 64 → lock_at cs k ≡ false
  unfolding lock_at
  no_lock_below_64 h = rw (lt-leb 64 k h)

  pub broken_run_has_no_lock
      : 64 ≤ k → (j : ℕ) → j < k → k ≤ j + 64 → (get_or cs j Narrow ≡ Two → ⊥) → lock_at cs k ≡ false
  unfolding lock_at
  broken_run_has_no_lock far j low high broken =
      let there : get_or (drop (k - 64) cs) (j - (k - 64)) Narrow ≡ get_or cs j Narrow =
      get_or-drop (k - 64) cs (j - (k - 64)) Narrow ∙ ap (λ (i : ℕ). get_or cs i Narrow) (omega arith) in
      rw (
        run_broken 64 (drop (k - 64) cs) (j - (k - 64)) (omega arith) (λ e. broken (sym there ∙ e)),
        and-false,
      )

  pub no_lock_without_mark : mark_ahead (drop k cs) ≡ false → lock_at cs k ≡ false
  unfolding lock_at
  no_lock_without_mark e = rw (e, and-false)

  no_lock_at_two : k < length cs → get_or cs k Narrow ≡ Two → lock_at cs k ≡ false
  no_lock_at_two h two = no_lock_without_mark (rw (drop-cons cs k Narrow h, two) (two_begins_no_mark _))

  pub no_lock_past_end : length cs ≤ k → lock_at cs k ≡ false
  no_lock_past_end h = no_lock_without_mark (rw (drop_of_length-le cs h) no_mark_of_none)

  pub lock_is_within : lock_at cs k ≡ true → k < length cs
  lock_is_within e =
      ⊎_elim (λ past. absurd (true≢false (sym e ∙ no_lock_past_end (omega arith)))) (λ inside. omega arith)
      (eq-zero-or-pos (length cs - k))

module _ (cs : List Class) where
  -- ---- the search

  skips : (k places : ℕ) → lock_at cs k ≡ false → first_lock cs k places ≡ first_lock cs (suc k) (pred places)
  unfolding first_lock
  skips k zero e = refl
  skips k (suc places) e = rw e

  no_lock_goes_on : (k : ℕ) → lock_at cs k ≡ false → lock_from cs k ≡ lock_from cs (k + 1)
  unfolding lock_from
  no_lock_goes_on k e = skips k (length cs - k) e ∙ ap₂ (first_lock cs) (omega arith) (omega arith)

  goes_on_by : (d k : ℕ) → ((j : ℕ) → k ≤ j → j < k + d → lock_at cs j ≡ false) → lock_from cs k ≡ lock_from cs (k + d)
  goes_on_by zero k none = ap (lock_from cs) (omega arith)
  goes_on_by (suc d) k none =
      no_lock_goes_on k (none k (omega arith) (omega arith))
      ∙ goes_on_by d (k + 1) (λ j low high. none j (omega arith) (omega arith))
      ∙ ap (lock_from cs) (omega arith)

  -- from k on to a place before which no lock stands
  pub search_goes_on
      : (k next : ℕ)
      → k ≤ next
      → ((j : ℕ) → k ≤ j → j < next → lock_at cs j ≡ false)
      → lock_from cs k ≡ lock_from cs next
  search_goes_on k next far none =
      goes_on_by (next - k) k (λ j low high. none j low (omega arith)) ∙ ap (lock_from cs) (omega arith)

  -- an interval that is not of class 2 rules out every place that has it among its 64
  pub broken_run_is_passed
      : (k j : ℕ)
      → 64 ≤ k
      → j < k
      → k ≤ j + 65
      → (get_or cs j Narrow ≡ Two → ⊥)
      → lock_from cs k ≡ lock_from cs (j + 65)
  broken_run_is_passed k j far low high broken =
      search_goes_on k (j + 65) high
      (λ i from to. broken_run_has_no_lock cs i (omega arith) j (omega arith) (omega arith) broken)

  -- no mark begins with class 2
  pub longer_run_is_passed
      : (k next : ℕ) → k ≤ next → next ≤ length cs → Twos cs k next → lock_from cs k ≡ lock_from cs next
  longer_run_is_passed k next far within twos =
      search_goes_on k next far (λ i from to. no_lock_at_two cs i (omega arith) (twos i from to))

  pub first_64_are_passed : lock_from cs 0 ≡ lock_from cs 64
  first_64_are_passed = search_goes_on 0 64 (omega arith) (λ i from to. no_lock_below_64 cs i to)

  pub search_ends_in_lock : (k : ℕ) → lock_at cs k ≡ true → accepted k ≡ lock_from cs k
  unfolding lock_from first_lock
  search_ends_in_lock k e =
      let h : k < length cs = lock_is_within cs k e in
      let more : length cs - k ≡ suc (length cs - (k + 1)) = omega arith in
      rw (more, e)

  pub search_ends_adrift : (k : ℕ) → length cs ≤ k → refused 10 0 ≡ lock_from cs k
  unfolding lock_from first_lock
  search_ends_adrift k h =
      let none : length cs - k ≡ 0 = omega arith in
      rw none

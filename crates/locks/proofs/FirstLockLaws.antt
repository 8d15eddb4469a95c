-- What the search for the first lock finds: the smallest place at which one stands, and adrift means that none does. By
-- induction on the places that are left. Rests on no axiom.
use Prim.Native.Nat.{ℕ, zero, suc, ◌+◌, ◌<◌, ◌≤◌}
use mathlib.Core.Path.{◌≡◌, refl, sym, ap, ◌∙◌}
use mathlib.Core.Bool.{Bool, true, false}
use mathlib.Core.List.{List}
use mathlib.Core.Logic.{◌⊎◌, inl, inr, ⊎_elim}
use native.Mathlib.Nat.{eq-or-lt_of_le}
use native.Mathlib.Omega.{arith}
use borrow.Author.Tests.{eq-eqb}
use lib.ListN.{length, drop}
use Rattle.refusal.specs.Answer.{accepted, refused}
use Rattle.timing.specs.Profile.{profile_rule}
use Rattle.timing.specs.Class.{classes_of}
use Rattle.timing.specs.declared.Profile.{Profile}
use Rattle.timing.specs.declared.Class.{Class}
use Rattle.locks.specs.Lock.{lock_at, lock_from, search_rule, find_rule}
use Rattle.locks.proofs.FinderLaws.{no_lock_past_end, search_goes_on, search_ends_in_lock, search_ends_adrift}

-- a lock stands at place t, and at none before it from place k on
pub record FirstFrom (cs : List Class) (k t : ℕ) : Type 0 where
  pub from : k ≤ t
  pub stands : lock_at cs t ≡ true
  pub before : (j : ℕ) → k ≤ j → j < t → lock_at cs j ≡ false

module _ (cs : List Class) where
  pub lock_from_is : (k t : ℕ) → FirstFrom cs k t → lock_from cs k ≡ accepted t
  lock_from_is k t first =
      search_goes_on cs k t first.from first.before ∙ sym (search_ends_in_lock cs t first.stands)

  abbrev NoneFrom : ℕ → Type 0
  NoneFrom k = (j : ℕ) → k ≤ j → lock_at cs j ≡ false

  adrift_without_lock : (k : ℕ) → NoneFrom k → lock_from cs k ≡ refused 10 0
  adrift_without_lock k none =
      search_goes_on cs k (k + length cs) (omega arith) (λ j low high. none j low)
      ∙ sym (search_ends_adrift cs (k + length cs) (omega arith))

  abbrev FirstOrNone : ℕ → Type 0
  FirstOrNone k = ((t : ℕ) × FirstFrom cs k t) ⊎ NoneFrom k

  -- here, or as it is from the next place on
  here_or_later : (k : ℕ) (t : Bool) → lock_at cs k ≡ t → FirstOrNone (suc k) → FirstOrNone k
  here_or_later k true e later =
      inl (k, record { from = omega arith; stands = e; before = λ j low high. absurd (omega arith) })
  here_or_later k false e later =
      let from_k : (j : ℕ) → k ≤ j → (suc k ≤ j → lock_at cs j ≡ false) → lock_at cs j ≡ false =
      λ j low on. ⊎_elim (λ same. ap (lock_at cs) (sym same) ∙ e) on (eq-or-lt_of_le low) in
      ⊎_elim (λ found.
      let first = found.1 in
      inl (
        found.0,
        record {
          from = omega (arith, first.from);
          stands = first.stands;
          before = λ j low high. from_k j low (λ on. first.before j on high);
        },
      ))
      (λ none. inr (λ j low. from_k j low (none j))) later

  first_or_none : (places k : ℕ) → length cs ≤ k + places → FirstOrNone k
  first_or_none zero k h = inr (λ j low. no_lock_past_end cs j (omega arith))
  first_or_none (suc places) k h = here_or_later k (lock_at cs k) refl (first_or_none places (suc k) (omega arith))

  pub lock_from_found : (k : ℕ) → (lock_from cs k).number ≡ 0 → FirstFrom cs k (lock_from cs k).count
  lock_from_found k e =
      ⊎_elim (λ found. rw (lock_from_is k found.0 found.1) found.1)
      (λ none. absurd (let q = rw (adrift_without_lock k none) at e in omega arith))
      (first_or_none (length cs) k (omega arith))

  pub adrift_has_no_lock : (k : ℕ) → (lock_from cs k).number ≡ 10 → (j : ℕ) → k ≤ j → lock_at cs j ≡ false
  adrift_has_no_lock k e =
      ⊎_elim (λ found. absurd (let q = rw (lock_from_is k found.0 found.1) at e in omega arith)) (λ none. none)
      (first_or_none (length cs) k (omega arith))

-- ---- the finder's answer

-- the first lock of the intervals from `start` on, where the profile is accepted
pub first_lock_is_found
    : (p : Profile) (ds : List ℕ) (start k : ℕ)
    → (profile_rule p).number ≡ 0
    → lock_from (classes_of p (drop start ds)) 0 ≡ accepted k
    → find_rule p ds start ≡ accepted (start + k)
unfolding find_rule search_rule
first_lock_is_found p ds start k accepts e = rw (eq-eqb _ 0 accepts, e)

-- 10 where none stands in the intervals from `start` on
pub none_is_found
    : (p : Profile) (ds : List ℕ) (start : ℕ)
    → (profile_rule p).number ≡ 0
    → ((k : ℕ) → lock_at (classes_of p (drop start ds)) k ≡ false)
    → find_rule p ds start ≡ refused 10 0
unfolding find_rule search_rule
none_is_found p ds start accepts none =
    rw (eq-eqb _ 0 accepts, adrift_without_lock (classes_of p (drop start ds)) 0 (λ k low. none k))

-- under an accepted profile the search is all
pub search_finds
    : (p : Profile) (ds : List ℕ) (start : ℕ) → (profile_rule p).number ≡ 0 → search_rule p ds start ≡ find_rule p ds start
unfolding find_rule
search_finds p ds start h = rw (eq-eqb _ 0 h)

-- Laws of answers in an order of causes: a rule makes its tests one after the other, and where each test means its
-- cause, the answer is that of the first cause that holds. Rests on no axiom.
use Prim.Native.Nat.{ℕ, suc, ◌≤◌, ◌<◌}
use mathlib.Core.Path.{◌≡◌, refl, sym, ◌∙◌}
use mathlib.Core.Bool.{Bool, true, false, cond, not, ◌||◌, true≢false, false≢true}
use mathlib.Core.List.{List}
use mathlib.Core.Logic.{◌⊎◌, inl, inr, ⊎_elim}
use native.Mathlib.Omega.{arith}
use lib.Dec.{ltb, eqb, eqb-suc-zero}
use lib.ListN.{length, drop}
use lib.Seq.{drop-append_seam}
use borrow.Author.Tests.{ltb-true, ltb-false, eqb-true, eqb-false, eq-eqb, ne_eqb}
use Rattle.lists.specs.Filled.{filled}
use Rattle.lists.proofs.StoreLaws.{front_of_filled}
use Rattle.refusal.specs.Answer.{Answer, accepted, refused, refuse_if, first_refusal, settled}
use Rattle.refusal.proofs.AnswerLaws.{first_refusal_accepts, first_refusal_passes, refuse_if_accepts}
use Rattle.refusal.proofs.AnswerLaws.{acceptance_fills_the_buffer}
use Rattle.timing.specs.Profile.{is_true, profile_rule}
use Rattle.timing.specs.declared.Profile.{Profile}
use Rattle.merge.specs.Rule.{storing}
use Rattle.demands.specs.Order.{Order, accept, turn, at0, Nowhere, InTurn, NoCause, order_numbers, OneOf, Answers}
use Rattle.demands.specs.Order.{Lent}
use Rattle.demands.specs.Causes.{profile_order}
use Rattle.demands.specs.MergeCauses.{counted_in_bytes}

-- ---- an order answered turn by turn

pub answers_accepted : {n : ℕ} → Answers accept (accepted n)
unfolding InTurn NoCause OneOf
answers_accepted =
    record {
      in_turn = refl;
      named = inl refl;
      accepted_if_no_cause = λ none. refl;
      no_cause_if_accepted = λ e. tt;
    }

-- the first cause holds
pub answers_here
    : {n place : ℕ} {Cause : ℕ → Type 0} {order : Order}
    → Cause place
    → Answers (turn (suc n) Cause order) (refused (suc n) place)
unfolding InTurn NoCause OneOf order_numbers
answers_here {place = place} cause =
    record {
      in_turn = inl (cause, refl);
      named = inr (inl refl);
      accepted_if_no_cause = λ none. absurd (none.0 place cause);
      no_cause_if_accepted = λ e. absurd (omega arith);
    }

-- it holds nowhere
pub answers_later
    : {n : ℕ} {Cause : ℕ → Type 0} {order : Order} {a : Answer}
    → Nowhere Cause
    → Answers order a
    → Answers (turn n Cause order) a
unfolding InTurn NoCause OneOf order_numbers
answers_later none later =
    record {
      in_turn = inr (none, later.in_turn);
      named = ⊎_elim inl (λ among. inr (inr among)) later.named;
      accepted_if_no_cause = λ no_cause. later.accepted_if_no_cause no_cause.1;
      no_cause_if_accepted = λ e. (none, later.no_cause_if_accepted e);
    }

-- ---- a test in its turn

-- the test means the cause: it passes where the cause holds at its place, and fails where it holds nowhere
pub data Means (place : ℕ) (Cause : ℕ → Type 0) : Bool → Type 0 where
  holds : Cause place → Means place Cause true
  fails : Nowhere Cause → Means place Cause false

pub turn_by_test
    : {t : Bool} {n place : ℕ} {Cause : ℕ → Type 0} {order : Order} {later : Answer}
    → Means place Cause t
    → Answers order later
    → Answers (turn (suc n) Cause order) (refuse_if t (suc n) place later)
turn_by_test (holds cause) rest = answers_here cause
turn_by_test (fails none) rest = answers_later none rest

-- the same where the test is one of a rule that comes before the later tests
pub turn_before
    : {t : Bool} {place : ℕ} {Cause : ℕ → Type 0} {order : Order} (n : ℕ) (rule later : Answer)
    → Means place Cause t
    → Answers order (first_refusal rule later)
    → Answers (turn (suc n) Cause order) (first_refusal (refuse_if t (suc n) place rule) later)
turn_before n rule later (holds cause) rest = rw (eqb-suc-zero n) (answers_here cause)
turn_before n rule later (fails none) rest = answers_later none rest

-- ---- what a test means

-- a test that has a place
pub means_at : (t : Bool) (place : ℕ) → Means place (λ k. (t ≡ true) × (k ≡ place)) t
means_at true place = holds (refl, refl)
means_at false place = fails (λ k c. false≢true c.0)

pub means_not : (t : Bool) → Means 0 (at0 (t ≡ false)) (not t)
means_not true = fails (λ k c. true≢false c.0)
means_not false = holds (refl, refl)

pub means_below : (a b : ℕ) → Means 0 (at0 (a < b)) (ltb a b)
means_below a b =
    elim (ltb a b) as (λ t. ltb a b ≡ t → Means 0 (at0 (a < b)) t) [
      | true ↦ λ e. holds (ltb-true a b e, refl)
      | false ↦ λ e. fails (λ k c. let h = ltb-false a b e in omega arith)
    ] refl

pub means_below_at : (place a b : ℕ) → Means place (λ k. (a < b) × (k ≡ place)) (ltb a b)
means_below_at place a b =
    elim (ltb a b) as (λ t. ltb a b ≡ t → Means place (λ k. (a < b) × (k ≡ place)) t) [
      | true ↦ λ e. holds (ltb-true a b e, refl)
      | false ↦ λ e. fails (λ k h. absurd (omega (arith, ltb-false a b e, h.0)))
    ] refl

pub means_equal : (a b : ℕ) → Means 0 (at0 (a ≡ b)) (eqb a b)
means_equal a b =
    elim (eqb a b) as (λ t. eqb a b ≡ t → Means 0 (at0 (a ≡ b)) t) [
      | true ↦ λ e. holds (eqb-true a b e, refl)
      | false ↦ λ e. fails (λ k c. eqb-false a b e c.0)
    ] refl

-- a test of a number, and what comes later where it is not above
pub turn_if_above
    : {n : ℕ} {order : Order} {later : Answer} (a b : ℕ)
    → (b ≤ a → Answers order later)
    → Answers (turn (suc n) (at0 (a < b)) order) (refuse_if (ltb a b) (suc n) 0 later)
turn_if_above {n} {order} {later} a b rest =
    elim (ltb a b) as (λ t.
    ltb a b ≡ t → Answers (turn (suc n) (at0 (a < b)) order) (refuse_if t (suc n) 0 later)) [
      | true ↦ λ e. answers_here (ltb-true a b e, refl)
      | false ↦ λ e. let most = ltb-false a b e in answers_later (λ k c. omega (arith, most, c.0)) (rest most)
    ] refl

-- one test or the other
pub means_or
    : {s t : Bool} {A B : Type 0} → Means 0 (at0 A) s → Means 0 (at0 B) t → Means 0 (at0 (A ⊎ B)) (s || t)
means_or (holds a) n = holds (inl a.0, refl)
means_or (fails f) (holds b) = holds (inr b.0, refl)
means_or (fails f) (fails g) = fails (λ k c. ⊎_elim (λ a. f 0 (a, refl)) (λ b. g 0 (b, refl)) c.0)

-- 9 last, or another test of a number
pub last_below
    : {n : ℕ} (a b k : ℕ) → Answers (turn (suc n) (at0 (a < b)) accept) (refuse_if (ltb a b) (suc n) 0 (accepted k))
last_below a b k = turn_by_test (means_below a b) answers_accepted

pub means_either : (a b c d : ℕ) → Means 0 (at0 ((a < b) ⊎ (c < d))) (ltb a b || ltb c d)
means_either a b c d = means_or (means_below a b) (means_below c d)

-- 1 and 2 come first, and then what an operation says under an accepted profile
pub profile_first
    : {order : Order} (p : Profile) (later : Answer)
    → Answers order later
    → Answers (profile_order p order) (first_refusal (profile_rule p) later)
unfolding profile_rule
profile_first p later rest =
    turn_before 0 _ later (means_at _ _) (turn_before 1 (accepted 0) later (means_not (is_true p)) rest)

-- ---- a number of which no cause holds is not answered

unfoldable pub NoCauseOf : ℕ → Order → Type 0
NoCauseOf m accept = Unit
NoCauseOf m (turn n Cause later) = (n ≡ m → Nowhere Cause) × NoCauseOf m later

pub not_answered
    : (m : ℕ) (order : Order) (a : Answer) → InTurn order a → NoCauseOf (suc m) order → a.number ≡ suc m → ⊥
unfolding NoCauseOf InTurn
not_answered m accept a q none e = omega arith
not_answered m (turn n Cause later) a q none e =
    ⊎_elim (λ here. none.0 (sym here.1 ∙ e) a.place here.0)
    (λ on. not_answered m later a on.1 none.1 e) q

-- ---- a buffer that is settled by an answer

-- what holds of the count where an answer accepts
pub record Told (a : Answer) (P : ℕ → Type 0) : Type 0 where
  pub told : a.number ≡ 0 → P a.count

pub told_once_accepted
    : {b : Answer} {P : ℕ → Type 0} (a : Answer) → (a.number ≡ 0 → Told b P) → Told (first_refusal a b) P
told_once_accepted {b} a h =
    record {
      told = λ e.
          let both = first_refusal_accepts a b e in
          rw (first_refusal_passes a b both.0) ((h both.0).told both.1);
    }

pub told_after : {b : Answer} {P : ℕ → Type 0} (a : Answer) → Told b P → Told (first_refusal a b) P
told_after a h = told_once_accepted a (λ _. h)

pub told_by_test
    : {later : Answer} {P : ℕ → Type 0} (t : Bool) (n place : ℕ)
    → Told later P
    → Told (refuse_if t (suc n) place later) P
told_by_test true n place h = record { told = λ e. absurd (omega arith) }
told_by_test false n place h = h

pub told_if_room
    : {P : ℕ → Type 0} (n room k : ℕ) → (n ≤ room → P k) → Told (refuse_if (ltb room n) 9 0 (accepted k)) P
told_if_room n room k h =
    record {
      told = λ e.
          let fits = (refuse_if_accepts (ltb room n) 8 0 (accepted k) e).0 in rw fits (h (ltb-false room n fits));
    }

-- the output has room for so many numbers, and they are counted
abbrev pub Roomy : ℕ → ℕ → ℕ → Type 0
Roomy n room count = (n ≤ room) × (count ≡ n)

pub told_room : {m : ℕ} (n room : ℕ) → m ≡ n → Told (refuse_if (ltb room n) 9 0 (accepted n)) (Roomy m room)
told_room n room same = told_if_room n room n (λ fits. (rw same fits, sym same))

-- the answer with the bytes stored as its count
pub told_bytes
    : (rule : Answer) (n room : ℕ)
    → Told rule (λ count. n ≤ room)
    → Told (counted_in_bytes (storing rule n)) (Roomy n room)
told_bytes rule n room h = record { told = λ e. (h.told e, rw (eq-eqb _ 0 e)) }

pub settled_is_lent
    : (a : Answer) (result old : List ℕ)
    → Told a (Roomy (length result) (length old))
    → Lent a result old (settled a result old)
unfolding filled
settled_is_lent a result old h =
    let fills = acceptance_fills_the_buffer a result old in
    record {
      as_it_was = λ refuses. rw ne_eqb;
      has_room = λ e. (h.told e).0;
      counted = λ e. (h.told e).1;
      front = λ e. cc (fills e, front_of_filled result old);
      remainder = λ e. cc (fills e, drop-append_seam result (drop (length result) old));
    }

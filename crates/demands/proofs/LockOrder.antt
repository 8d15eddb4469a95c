-- The finder's turn, alone and before later ones: where it counts a lock stands, and 10 means that none does. Rests on no
-- axiom.
use Prim.Native.Nat.{ℕ, zero, suc, ◌-◌}
use mathlib.Core.Path.{◌≡◌, refl}
use mathlib.Core.Bool.{true, false, cond, true≢false}
use mathlib.Core.List.{List}
use mathlib.Core.Logic.{◌⊎◌, inl, inr, ⊎_elim}
use native.Mathlib.Omega.{arith}
use lib.ListN.{length}
use Rattle.refusal.specs.Answer.{Answer, accepted, refused, first_refusal}
use Rattle.timing.specs.declared.Class.{Class}
use Rattle.locks.specs.Lock.{lock_at, first_lock, lock_from, counted_from}
use Rattle.locks.proofs.FirstLockLaws.{lock_from_found, adrift_has_no_lock}
use Rattle.demands.specs.Order.{Order, accept, turn, at0, Answers}
use Rattle.demands.specs.Causes.{Adrift}
use Rattle.demands.proofs.OrderLaws.{answers_accepted, answers_here, answers_later}

lock_or_adrift
    : (cs : List Class) (places k : ℕ) → ((first_lock cs k places).number ≡ 0) ⊎ (first_lock cs k places ≡ refused 10 0)
unfolding first_lock
lock_or_adrift cs zero k = inr refl
lock_or_adrift cs (suc places) k =
    elim (lock_at cs k) as (λ t.
    ((cond t (accepted k) (first_lock cs (suc k) places)).number ≡ 0)
    ⊎ (cond t (accepted k) (first_lock cs (suc k) places) ≡ refused 10 0))
    [ true ↦ inl refl | false ↦ lock_or_adrift cs places (suc k) ]

pub lock_in_turn
    : (cs : List Class) (start : ℕ)
    → Answers (turn 10 (at0 (Adrift cs)) accept) (counted_from start (lock_from cs 0))
unfolding lock_from
lock_in_turn cs start =
    ⊎_elim (λ found.
    rw found (answers_later (λ k none. none.0 _ (lock_from_found cs 0 found).stands) answers_accepted))
    (λ adrift.
    rw adrift (answers_here (λ k stands. true≢false (cc (adrift_has_no_lock cs 0 (cc adrift) k (omega arith))), refl)))
    (lock_or_adrift cs (length cs - 0) 0)

pub lock_before
    : {order : Order} {later : Answer} (cs : List Class) (start : ℕ)
    → Answers order later
    → Answers (turn 10 (at0 (Adrift cs)) order) (first_refusal (counted_from start (lock_from cs 0)) later)
unfolding lock_from
lock_before cs start answers =
    ⊎_elim (λ found. rw found (answers_later (λ k none. none.0 _ (lock_from_found cs 0 found).stands) answers))
    (λ adrift.
    rw adrift (answers_here (λ k stands. true≢false (cc (adrift_has_no_lock cs 0 (cc adrift) k (omega arith))), refl)))
    (lock_or_adrift cs (length cs - 0) 0)

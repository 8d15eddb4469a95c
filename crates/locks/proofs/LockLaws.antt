-- Laws of a lock's two parts: 64 of class 2 are a run, a place of another class breaks every run over it, and no mark
-- begins with class 2. The first two follow by induction on the front of the list, the last is computed over the
-- patterns. Rests on no axiom.
use Prim.Native.Nat.{ℕ, zero, suc, ◌-◌, ◌<◌}
use mathlib.Core.Path.{◌≡◌, refl, ap}
use mathlib.Core.Bool.{true, false, and-false}
use mathlib.Core.List.{List, [], ◌∷◌}
use native.Mathlib.Omega.{arith}
use lib.Dec.{eqb}
use lib.ListN.{length, get_or, take, drop, replicate, length-drop}
use lib.Seq.{take_all}
use Rattle.lists.specs.Place.{anywhere}
use Rattle.timing.specs.Class.{class_number}
use Rattle.timing.specs.declared.Class.{Class}
use Rattle.timing.specs.declared.Class.TheVariants.{Narrow, Two, Three, Four, Wide}
use Rattle.locks.specs.Lock.{begins_with, lock_patterns, mark_ahead}

-- ---- a run of class 2

two_or_not : (c : Class) → (c ≡ Two → ⊥) → eqb (class_number c) 2 ≡ false
two_or_not Narrow n = refl
two_or_not Two n = absurd (n refl)
two_or_not Three n = refl
two_or_not Four n = refl
two_or_not Wide n = refl

pub run_ahead
    : (n : ℕ) (cs : List Class)
    → ((j : ℕ) → j < n → get_or cs j Narrow ≡ Two)
    → begins_with (replicate n 2) cs ≡ true
unfolding begins_with
run_ahead zero cs h = refl
run_ahead (suc n) [] h = absurd (omega (arith, ap class_number (h 0 (omega arith))))
run_ahead (suc n) (c ∷ cs) h = rw (h 0 (omega arith)) (run_ahead n cs (λ j q. h (suc j) (omega arith)))

pub run_broken
    : (n : ℕ) (cs : List Class) (j : ℕ)
    → j < n
    → (get_or cs j Narrow ≡ Two → ⊥)
    → begins_with (replicate n 2) cs ≡ false
unfolding begins_with
run_broken zero cs j h b = absurd (omega arith)
run_broken (suc n) [] j h b = refl
run_broken (suc n) (c ∷ cs) zero h b = rw (two_or_not c b)
run_broken (suc n) (c ∷ cs) (suc j) h b = rw (run_broken n cs j (omega arith) b, and-false)

-- ---- a mark

pub no_mark_of_none : mark_ahead [] ≡ false
unfolding mark_ahead lock_patterns anywhere begins_with
no_mark_of_none = refl

pub two_begins_no_mark : (cs : List Class) → mark_ahead (Two ∷ cs) ≡ false
unfolding mark_ahead lock_patterns anywhere begins_with
two_begins_no_mark cs = refl

-- ---- the part of a list from a place on, as it is lent

pub part_to_end : (ds : List ℕ) (k : ℕ) → take (length ds - k) (drop k ds) ≡ drop k ds
part_to_end ds k = take_all (length ds - k) (drop k ds) (rw (length-drop k ds) (omega arith))

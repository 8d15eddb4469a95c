-- Why the finder from a start is the finder over the rest: it has the intervals from there on and no others, and counts
-- the place from there. Rests on no axiom.
use Prim.Native.Nat.{ℕ}
use mathlib.Core.Path.{◌≡◌, refl}
use mathlib.Core.Bool.{Bool, true, false}
use native.Mathlib.Nat.{zero-add}
use lib.Dec.{eqb}
use lib.ListN.{drop}
use Rattle.refusal.specs.Answer.{Answer, first_refusal}
use Rattle.timing.specs.Profile.{profile_rule}
use Rattle.timing.specs.Class.{classes_of}
use Rattle.locks.specs.Lock.{counted_from, lock_from, search_rule, find_rule}
use Rattle.locks.specs.Claims.{SearchesStartAnew}

counted_once
    : (first found : Bool) (start : ℕ) (a b : Answer)
    → eqb a.number 0 ≡ first
    → eqb b.number 0 ≡ found
    → first_refusal a (counted_from start b) ≡ counted_from start (first_refusal a (counted_from 0 b))
counted_once true true start a b e f = rw (e, f, zero-add)
counted_once true false start a b e f = rw (e, f, f)
counted_once false found start a b e f = rw (e, e)

pub searches_start_anew : SearchesStartAnew
unfolding find_rule search_rule
searches_start_anew p ds start =
    counted_once _ _ start (profile_rule p) (lock_from (classes_of p (drop start ds)) 0) refl refl

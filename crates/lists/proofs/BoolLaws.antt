-- Two tests at once: by cases of the first. Rests on no axiom.
use Prim.Native.Nat.{◌≤◌}
use mathlib.Core.Path.{◌≡◌, refl, sym}
use mathlib.Core.Bool.{Bool, true, false, ◌&&◌, true≢false}
use native.Mathlib.Omega.{arith}
use mir.Val.{bool_byte}
use Rattle.lists.specs.YesNo.{as_number}

pub both : (a b : Bool) → (a && b) ≡ true → (a ≡ true) × (b ≡ true)
both true b e = (refl, e)
both false b e = absurd (true≢false (sym e))

-- where they do not pass, the second alone
pub second_fails : (a b : Bool) → (a && b) ≡ false → a ≡ true → b ≡ false
second_fails true b e h = e
second_fails false b e h = absurd (true≢false (sym h))

-- as a number
pub one_at_most : (a : Bool) → bool_byte a ≤ 1
one_at_most true = omega arith
one_at_most false = omega arith

pub number_of_yes : (a : Bool) → bool_byte a ≡ as_number a
number_of_yes true = refl
number_of_yes false = refl

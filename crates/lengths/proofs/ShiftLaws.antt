-- A nominal length and a shift as whole numbers: where the shift takes away no more than there is, their sum is the
-- difference of natural numbers.
use Prim.Native.Nat.{ℕ, zero, suc, ◌+◌, ◌-◌, ◌≤◌}
use mathlib.Core.Path.{◌≡◌, sym, ap, ◌∙◌}
use native.Mathlib.Omega.{arith}
use lib.IntN.{pos, neg_ℤ, ◌+ℤ◌, ◌-ℤ◌, +ℤ_assoc}
use borrow.Author.Tests.{le-ltb}

-- what is taken from enough is the difference
difference_from_enough : (a s : ℕ) → s ≤ a → pos a -ℤ pos s ≡ pos (a - s)
difference_from_enough a zero h = ap pos (omega arith)
difference_from_enough a (suc s) h = rw (le-ltb a (suc s) h)

-- a shift that takes away no more than there is
pub signed_sum : (n s e : ℕ) → s ≤ n + e → pos n +ℤ (pos e -ℤ pos s) ≡ pos (n + e - s)
signed_sum n s e enough = sym (+ℤ_assoc (pos n) (pos e) (neg_ℤ (pos s))) ∙ difference_from_enough (n + e) s enough

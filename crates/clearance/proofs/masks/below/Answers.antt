-- Why `masks::below` tells the lesser: a difference of two numbers of 16 bits borrows from the upper 16 where the first
-- is the lesser. Rests on no axiom.
use Rattle.std.proofs.Common.{◌≡◌, ℕ, ◌+◌, ◌/◌, ◌%◌, ◌^◌, ◌<◌, ltb, arith, le-ltb, lt-ltb}
use native.Mathlib.Decide.{dec_lt}
use Rattle.clearance.specs.machine.Masks.{mask_of}
use Rattle.clearance.proofs.masks.below.Goals as goal

borrows : (a b r : ℕ)
    → a < 2 ^ 16
    → b < 2 ^ 16
    → r < 2 ^ 32
    → (r + b) % 2 ^ 32 ≡ a
    → r / 65536 ≡ mask_of (ltb a b)
borrows a b r small narrow fits wraps =
    elim (dec_lt a b) [
      | yes under ↦ rw (lt-ltb a b under) (omega arith)
      | no over ↦ rw (le-ltb a b (omega arith)) (omega arith)
    ]

pub returns : goal.returns
returns c =
    borrows c.args.a c.args.b _ (omega arith) (omega arith) (omega arith) (omega arith)

-- Machine, not meaning: a law ties it to Row (`proofs/row/overflows`). No lemmas here.
use Rattle.std.specs.Prelude.{ℕ, ◌+◌, ◌≤◌, ◌≡◌, Bool, ltb}
use Rattle.report.specs.Row.{largest}

-- of two numbers of 64 bits: whether their sum is one
pub record Compared (a b : ℕ) (exceeds : Bool) : Type 0 where
  pub first_fits : a ≤ largest
  pub second_fits : b ≤ largest
  pub sum : exceeds ≡ ltb largest (a + b)

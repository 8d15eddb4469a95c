-- Machine, not meaning: laws tie it to the units of cells (`proofs/LaneLaws`). No lemmas here.
-- Eight small numbers as the bytes of one.
use Rattle.std.specs.Prelude.{ℕ, ◌+◌, ◌*◌, ◌%◌, ◌^◌, List, [], ◌∷◌}

-- numbers below 256 as the bytes of one number, the first lowest
unfoldable pub packed : List ℕ → ℕ
packed [] = 0
packed (u ∷ us) = packed us * 2 ^ 8 + u

-- a number and itself moved up, in 64 bits
abbrev pub with_moved : ℕ → ℕ → ℕ
with_moved places x = (x + x * 2 ^ places % 2 ^ 64) % 2 ^ 64

-- in each of eight bytes the sum of it and those below
unfoldable pub sums_of : ℕ → ℕ
sums_of x = with_moved 32 (with_moved 16 (with_moved 8 x))

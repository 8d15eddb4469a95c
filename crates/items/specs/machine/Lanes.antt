-- Machine, not meaning: laws tie it to `after_bytes` and to the lowest check order (`proofs/LaneLaws`). No lemmas here.
-- Numbers of a list as one number: in lanes of 16 bits, the first lowest, or as bytes, the first at the top.
use Rattle.std.specs.Prelude.{ℕ, zero, suc, ◌+◌, ◌*◌, ◌^◌, Bool, List, eqb, get_or}
use Rattle.std.specs.Int.Bits.{bit_and, bit_or}

abbrev pub lanes : ℕ → ℕ → ℕ → ℕ → ℕ
lanes a b c d = ((d * 2 ^ 16 + c) * 2 ^ 16 + b) * 2 ^ 16 + a

unfoldable pub four_at : List ℕ → ℕ → ℕ
four_at l k = lanes (get_or l k 0) (get_or l (k + 1) 0) (get_or l (k + 2) 0) (get_or l (k + 3) 0)

-- whether eight numbers have none of some bits, given for four lanes
unfoldable pub clear_at : List ℕ → ℕ → ℕ → Bool
clear_at l k bits = eqb (bit_and (bit_or (four_at l k) (four_at l (k + 4))) bits) 0

unfoldable pub joined_at : ℕ → List ℕ → ℕ → ℕ
joined_at zero l k = 0
joined_at (suc n) l k = joined_at n l k * 256 + get_or l (k + n) 0

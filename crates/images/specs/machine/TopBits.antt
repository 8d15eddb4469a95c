-- Machine, not meaning: laws tie it to `half_cells` (`proofs/WordLaws`). No lemmas here.
-- The half cells of a number as a program takes them, the highest one first.
use Rattle.std.specs.Prelude.{ℕ, zero, suc, ◌-◌, ◌^◌, cond, List, [], ◌∷◌, ltb}
use Rattle.symbols.specs.Bits.{Bit, O, I}

-- those below a place; where the highest is a one, what is left of the number is less by it
unfoldable pub top_bits : ℕ → ℕ → List Bit
top_bits zero n = []
top_bits (suc place) n =
    cond (ltb n (2 ^ place)) O I ∷ top_bits place (n - cond (ltb n (2 ^ place)) 0 (2 ^ place))

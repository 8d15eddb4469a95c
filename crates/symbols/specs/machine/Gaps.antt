-- Machine, not meaning: laws tie it to Reading and Step (`proofs/CalmLaws`). No lemmas here.
-- Where gaps begin, by the units of cells alone.
use Rattle.std.specs.Prelude.{◌≡◌, ℕ, ◌+◌, ◌*◌, ◌%◌, Bool, false, ◌&&◌, ◌||◌, List, [], ◌∷◌, drop, ◌==◌}
use Rattle.lists.specs.Place.{anywhere}
use Rattle.symbols.specs.Bytes.{is_gap}
use Rattle.symbols.specs.Reading.{read_bits}
use Rattle.symbols.specs.declared.Cell.{Cell}
use Rattle.symbols.specs.declared.Reading.{Reading}

-- whether one of some cells after q half cells is a gap: it has four units and begins at a clock bit
unfoldable pub gaps_from : ℕ → List ℕ → Bool
gaps_from q [] = false
gaps_from q (u ∷ us) = (u == 4 && q % 2 == 0) || gaps_from (q + u) us

-- after some cells, no gap is among the letters of which the machine has yet to tell
unfoldable pub NoneOpen : Reading → List Cell → Type 0
NoneOpen m cs = anywhere is_gap (drop (8 * m.words) (read_bits cs)) ≡ false

-- Machine, not meaning: laws tie it to Class (`proofs/EdgeLaws`). No lemmas here.
-- What a reader asks of an interval: its units by the edges between the windows alone, so that there is no jump for a
-- class. Whether it is narrow or wide is asked apart.
use Rattle.std.specs.Prelude.{ℕ, ◌+◌, Bool, ◌&&◌, List, [], ◌∷◌, ◌==◌, nat_le}
use mir.Val.{bool_byte}
use Rattle.timing.specs.Class.{cursor_past}
use Rattle.timing.specs.declared.cursor.Cursor.{Cursor}

-- 2, and one more for each of the two edges that the interval reaches
unfoldable pub units_in : Cursor → ℕ → ℕ
units_in c d = 2 + bool_byte (nat_le c.bounds.b23.0 d) + bool_byte (nat_le c.bounds.b34.0 d)

-- of each interval of a list, from where the classing stands on
unfoldable pub units_from : Cursor → List ℕ → List ℕ
units_from c [] = []
units_from c (d ∷ ds) = units_in c d ∷ units_from (cursor_past c d) ds

-- the bounds are the same after either kind, and now
unfoldable pub is_steady : Cursor → Bool
is_steady c =
    (c.bounds.b23.0 == c.short.b23.0)
    && c.bounds.b34.0 == c.short.b34.0
    && c.bounds.b23.0 == c.long.b23.0
    && c.bounds.b34.0 == c.long.b34.0

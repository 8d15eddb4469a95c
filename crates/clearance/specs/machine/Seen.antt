-- Machine, not meaning: laws tie it to Clearance (`proofs/SeenLaws`). No lemmas here.
-- The extremes of the intervals met, and where the classing stands behind them.
use Rattle.std.specs.Prelude.{ℕ, List, [], ◌∷◌}
use Rattle.timing.specs.Class.{cursor_past}
use Rattle.clearance.specs.machine.Nearest.{met_with}
use Rattle.clearance.specs.declared.seen.Seen.{Seen}

-- with one interval more, between the bounds where the classing stands
unfoldable pub seen_past : Seen → ℕ → Seen
seen_past s d =
    record { extremes = met_with s.extremes s.cursor.bounds d; cursor = cursor_past s.cursor d }

-- with all intervals of a list
unfoldable pub seen_from : Seen → List ℕ → Seen
seen_from s [] = s
seen_from s (d ∷ ds) = seen_from (seen_past s d) ds

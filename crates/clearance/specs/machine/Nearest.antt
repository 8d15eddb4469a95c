-- Machine, not meaning: laws tie it to Clearance (`proofs/NearestLaws`). No lemmas here.
-- What the code keeps of the intervals that it has met: the shortest and the longest, and how far past a bound between
-- two windows the nearest are, from a bound up and below one; all in the order of signed 16-bit numbers.
use Rattle.std.specs.Prelude.{ℕ, ◌+◌, ◌-◌, ◌%◌, ◌≤◌, min, cond, List, [], ◌∷◌, nat_lt}
use Rattle.timing.specs.Class.{Ascending}
use Rattle.timing.specs.declared.Bounds.{Bounds}
use Rattle.timing.specs.declared.cursor.Cursor.{Cursor}
use Rattle.clearance.specs.declared.extremes.Extremes.{Extremes}

-- the place of a number in that order
abbrev pub turned : ℕ → ℕ
turned x = (x + 32768) % 65536

-- the first and the last of two numbers
unfoldable pub first_of : ℕ → ℕ → ℕ
first_of a b = cond (nat_lt (turned b) (turned a)) b a

unfoldable pub last_of : ℕ → ℕ → ℕ
last_of a b = cond (nat_lt (turned a) (turned b)) b a

-- how far an interval is past a bound, counted round: first those from the bound up, last the one just below it
unfoldable pub past_bound : ℕ → ℕ → ℕ
past_bound bound d = (d + (65536 - turned bound)) % 65536

-- how far a first and a last place are inside two others
abbrev pub room : ℕ → ℕ → ℕ → ℕ → ℕ
room from to first last = min (first - from) (to - last)

-- no edge is below the one before it, the first is above 0, and none is among the numbers that come first in that
-- order: so they are under every accepted profile
pub record Reachable (c : Cursor) : Type 0 where
  pub first : 1 ≤ c.min.0
  pub edges : Ascending c
  pub last : c.rpt.0 ≤ 32767

-- before any interval
unfoldable pub none_met : Extremes
none_met = record { shortest = 32767; longest = 32768; from = 32767; below = 32768 }

-- of the ways past either bound, the first and the last
abbrev pub first_past : Bounds → ℕ → ℕ
first_past b d = first_of (past_bound b.b23.0 d) (past_bound b.b34.0 d)

abbrev pub last_past : Bounds → ℕ → ℕ
last_past b d = last_of (past_bound b.b23.0 d) (past_bound b.b34.0 d)

-- with one interval more, and the bounds about it
unfoldable pub met_with : Extremes → Bounds → ℕ → Extremes
met_with m b d =
    record {
      shortest = first_of m.shortest d;
      longest = last_of m.longest d;
      from = first_of m.from (first_past b d);
      below = last_of m.below (last_past b d);
    }

-- the least clearance of the intervals met: at Min and Rpt, and at the bounds between them
unfoldable pub least_met : ℕ → ℕ → Extremes → ℕ
least_met low high m =
    min
    (room (turned low) (turned (high - 1)) (turned m.shortest) (turned m.longest))
    (room 0 65535 (turned m.from) (turned m.below))

-- with all intervals of a list, between the same bounds
unfoldable pub alike_from : Extremes → Bounds → List ℕ → Extremes
alike_from m b [] = m
alike_from m b (d ∷ ds) = alike_from (met_with m b d) b ds

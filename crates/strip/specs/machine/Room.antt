-- Machine, not meaning: the room that the printing functions ask for, and what slicing the output needs. Output and
-- Program say what is printed. No lemmas here.
use Rattle.std.specs.Prelude.{ℕ, ◌≤◌, ◌≡◌, List, length, take}

-- 18 bytes for each of at most 4,098 cells, and room for two lines more: no text that is printed is longer
abbrev pub output_length : ℕ
output_length = 74000

-- r bytes stand at the front of an output
abbrev pub Front : ℕ → List ℕ → Type 0
Front r after = (r ≤ length after) × (r ≡ length (take r after))

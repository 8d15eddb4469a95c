-- The byte of an item: of a data byte itself, of a mark byte, 256 more, the byte that is marked. No lemmas here.
use Rattle.std.specs.Prelude.{ℕ, ◌%◌}

unfoldable pub byte_of : ℕ → ℕ
byte_of item = item % 256

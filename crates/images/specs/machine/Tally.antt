-- Machine, not meaning: laws tie it to `written_cells` (`proofs/TallyLaws`). No lemmas here.
-- The cells of a list without writing them: the ones of its words, one byte after the other.
use Rattle.std.specs.Prelude.{ℕ, ◌+◌, List, [], ◌∷◌}
use Rattle.std.specs.Int.Count.{ones}
use Rattle.words.specs.Words.{word_of, last_bit}
use Rattle.images.specs.declared.count.Tally.{Tally}

-- before the first byte, after data bit 0
abbrev pub no_tally : Tally
no_tally = record { cells = 0; previous = 0 }

-- a byte more: a one of its word ends a cell
unfoldable pub tallied_byte : Tally → ℕ → Tally
tallied_byte t w = record { cells = t.cells + ones (word_of (last_bit t.previous) w); previous = w }

unfoldable pub tallied : Tally → List ℕ → Tally
tallied t [] = t
tallied t (w ∷ ws) = tallied (tallied_byte t w) ws

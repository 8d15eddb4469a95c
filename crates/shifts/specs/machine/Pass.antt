-- Machine, not meaning: laws tie it to Cells (`proofs/PassLaws`). No lemmas here.
-- One pass of a reader: the reading machine of the crate symbols over the units of a list's cells.
use Rattle.std.specs.Prelude.{ℕ, suc, cond, List, [], ◌∷◌, ◌++◌, nat_lt}
use Rattle.symbols.specs.machine.Step.{fresh_reading, stepped_by, word_by}
use Rattle.symbols.specs.declared.Reading.{Reading}
use Rattle.shifts.specs.declared.Pass.{Pass}

-- how far a pass came, and the code words that it closed
pub record Passed : Type 0 where
  pub end : Pass
  pub words : List ℕ

abbrev pub ended : Reading → ℕ → Passed
ended m k = record { end = record { reading = m; used = k }; words = [] }

abbrev pub after : List ℕ → Passed → Passed
after words rest = record { end = rest.end; words = words ++ rest.words }

-- a pass that ends with so many bytes, from the cell at place k on
unfoldable pub pass_from : ℕ → ℕ → Reading → List ℕ → Passed
pass_from most k m [] = ended m k
pass_from most k m (u ∷ us) =
    cond (nat_lt m.words most) (after (word_by m u) (pass_from most (suc k) (stepped_by m u k) us)) (ended m k)

unfoldable pub passed : ℕ → List ℕ → Passed
passed most us = pass_from most 0 fresh_reading us

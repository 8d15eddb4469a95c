-- The code words of a block of at most 64 intervals: so many as the pass counts more, 17 at most, and the front of a
-- buffer that has room for them. Rests on no axiom.
use Prim.Native.Nat.{ℕ, ◌+◌, ◌-◌, ◌^◌, ◌≤◌, ◌<◌}
use mathlib.Core.Path.{◌≡◌, ap, ◌∙◌}
use mathlib.Core.List.{List}
use native.Mathlib.Omega.{arith}
use lib.ListN.{length, take}
use Rattle.lists.specs.Filled.{stored_at}
use Rattle.lists.proofs.StoreLaws.{stored_length, front_of_stored}
use Rattle.timing.specs.machine.Edges.{units_from}
use Rattle.timing.proofs.UnitsLaws.{units_count}
use Rattle.passes.specs.machine.Blocks.{pass_on}
use Rattle.shifts.specs.declared.Pass.{Pass}
use Rattle.passes.specs.declared.block.Progress.{Progress}
use Rattle.intervals.proofs.TakenAsLaws.{units_are_cells}
use Rattle.shifts.proofs.PassLaws.{Counts, pass_counts}

module _
    (n : ℕ) (at : Progress) (block : List ℕ) (small : n < 2 ^ 32) (room : at.pass.reading.held ≤ 16)
    (few : length block ≤ 64) (next : Pass) (passed : next ≡ (pass_on n at block).end)
  where
    abbrev words : List ℕ
    words = (pass_on n at block).words

    counts : Counts n at.pass.used at.pass.reading (units_from at.cursor block) (pass_on n at block)
    counts = pass_counts n at.pass.used at.pass.reading _ small (units_are_cells _ _) room

    pub words_more : next.reading.words ≡ at.pass.reading.words + length words
    words_more = rw passed counts.words

    pub words_are_few : length words ≤ 17
    words_are_few = omega (arith, counts.half_cells_lem, room, few, units_count at.cursor block)

    pub used_more : (at.pass.used ≤ next.used) × (next.used ≤ at.pass.used + length block)
    used_more =
        rw passed (counts.least, omega (arith, counts.most_used, units_count at.cursor block))

    pub front_is_words
        : (old new : List ℕ)
        → length old ≡ 17
        → new ≡ stored_at old 0 words
        → (length new ≡ 17) × (take (next.reading.words - at.pass.reading.words) new ≡ words)
    front_is_words old new long stored = (
      ap length stored ∙ stored_length old 0 words ∙ long,
      rw stored (front_of_stored words old (next.reading.words - at.pass.reading.words) (omega (arith, words_more)) (omega (arith, words_more, words_are_few))),
    )

use Rattle.std.proofs.Common.{◌≡◌, ◌++◌, map, length, take, drop}
use Rattle.half_cells.specs.machine.Candidate.{candidate}
use Rattle.half_cells.proofs.words_to_bytes.Given as goal

abbrev pub invariant-loop-word : goal.invariant-loop-word
invariant-loop-word l =
    (length l.word-items ≡ length l.initial.word-items)
    × (take l.word-index l.word-items ++ map candidate (drop l.word-index l.word-items)
    ≡ map candidate l.initial.word-items)

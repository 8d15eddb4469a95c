-- `word::byte_of` makes the tests of `candidate` in its order. Rests on no axiom.
use Rattle.std.proofs.Common.{refl, ne_eqb}
use Rattle.half_cells.specs.machine.Candidate.{candidate}
use Rattle.half_cells.proofs.byte_of.Goals as goal

pub returns-then-word-eq-WORD_A1 : goal.returns-then-word-eq-WORD_A1
unfolding candidate
returns-then-word-eq-WORD_A1 c = rw c.if-word-eq-WORD_A1.true refl

pub returns-then-word-eq-WORD_C2 : goal.returns-then-word-eq-WORD_C2
unfolding candidate
returns-then-word-eq-WORD_C2 c = rw c.if-word-eq-WORD_C2.true refl

pub returns : goal.returns
unfolding candidate
returns c =
    rw (ne_eqb _ 0x4489 c.if-word-eq-WORD_A1.false, ne_eqb _ 0x5224 c.if-word-eq-WORD_C2.false) c.data_bits.ensures

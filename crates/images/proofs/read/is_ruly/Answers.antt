-- `read::is_ruly` tells whether a word's candidate has it: a mark has its own word after either bit. Rests on no axiom.
use mathlib.Core.Path.{refl}
use Rattle.items.specs.Item.{is_mark}
use Rattle.half_cells.specs.machine.Candidate.{candidate}
use Rattle.words.specs.Words.{mark_word, word_of}
use Rattle.images.proofs.read.is_ruly.Goals as goal

pub returns-then-word-eq-WORD_A1 : goal.returns-then-word-eq-WORD_A1
unfolding candidate word_of is_mark mark_word
returns-then-word-eq-WORD_A1 c = rw c.if-word-eq-WORD_A1.true refl

pub returns-then-word-eq-WORD_C2 : goal.returns-then-word-eq-WORD_C2
unfolding candidate word_of is_mark mark_word
returns-then-word-eq-WORD_C2 c = rw c.if-word-eq-WORD_C2.true refl

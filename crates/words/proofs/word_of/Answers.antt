-- `words::word_of` answers the word of a byte: a mark's own, else the table's at the previous bit and the byte. Rests
-- on no axiom.
use mathlib.Core.Path.{refl}
use Rattle.items.specs.Item.{is_mark}
use Rattle.words.specs.Words.{mark_word, word_of}
use Rattle.words.proofs.TableLaws.{entry_is_word}
use Rattle.words.proofs.word_of.Goals as goal

pub returns-then-byte-eq-MARK_A1 : goal.returns-then-byte-eq-MARK_A1
unfolding word_of is_mark mark_word
returns-then-byte-eq-MARK_A1 c = rw c.if-byte-eq-MARK_A1.true refl

pub returns-then-byte-eq-MARK_C2 : goal.returns-then-byte-eq-MARK_C2
unfolding word_of is_mark mark_word
returns-then-byte-eq-MARK_C2 c = rw c.if-byte-eq-MARK_C2.true refl

pub returns : goal.returns
returns c =
    rw c.requires
    (entry_is_word c.args.previous c.args.byte
    c.if-byte-eq-MARK_A1.false c.if-byte-eq-MARK_C2.false)

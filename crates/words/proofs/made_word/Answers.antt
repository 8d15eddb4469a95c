-- `words::made_word` answers the word of a byte: a mark's own, else the bits moved apart. Rests on no axiom.
use mathlib.Core.Path.{refl, ◌∙◌}
use Rattle.items.specs.Item.{is_mark}
use Rattle.words.specs.Words.{mark_word, word_of}
use Rattle.words.proofs.SpreadLaws.{spread_is_word}
use Rattle.words.proofs.made_word.Goals as goal
use Rattle.words.proofs.made_word.Goals.{then-w-eq-MARK_C2, else-w-eq-MARK_C2}

pub returns-then-w-eq-MARK_A1 : goal.returns-then-w-eq-MARK_A1
unfolding word_of is_mark mark_word
returns-then-w-eq-MARK_A1 c = rw c.if-w-eq-MARK_A1.true refl

pub returns-else-w-eq-MARK_A1 : goal.returns-else-w-eq-MARK_A1
unfolding word_of is_mark mark_word
returns-else-w-eq-MARK_A1 c =
    elim c.if-w-eq-MARK_C2.branch [
      | then-w-eq-MARK_C2 w ↦ w.word-is ∙ rw w.if-w-eq-MARK_C2.true refl
      | else-w-eq-MARK_C2 w ↦
          w.word-is ∙ c.spread_word-data.ensures
          ∙ spread_is_word c.args.previous c.args.w c.if-w-eq-MARK_A1.false w.if-w-eq-MARK_C2.false
    ]

-- `Reading::word` is `code_word` itself.
use Rattle.std.proofs.Common.{refl}
use Rattle.symbols.specs.machine.Step.{surplus, word_of, code_word}
use Rattle.symbols.proofs.Reading.word.Goals as goal

pub returns : goal.returns
unfolding surplus word_of code_word
returns c = refl

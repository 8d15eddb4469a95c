-- `words::spread_word` is the definition, step by step. Rests on no axiom.
use mathlib.Core.Path.{refl}
use Rattle.words.specs.machine.Spread.{spread_word}
use Rattle.words.proofs.spread_word.Goals as goal

pub returns : goal.returns
unfolding spread_word
returns c = refl

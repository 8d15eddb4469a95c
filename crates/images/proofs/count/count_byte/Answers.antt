-- `count::count_byte` adds the ones of the byte's word. Rests on no axiom.
use native.Mathlib.Omega.{arith}
use mathlib.Core.Path.{ap}
use lib.Count.{ones}
use Rattle.images.specs.machine.Tally.{tallied_byte}
use borrow.Author.Rules.{rules}
use Rattle.images.proofs.count.count_byte.Goals as goal

pub overflow_add-result : goal.overflow_add-result
unfolding tallied_byte
overflow_add-result c = omega (arith, c.requires, ap ones c.made_word.ensures)

pub returns : goal.returns
unfolding tallied_byte
returns c = rw c.made_word.ensures (search rules)

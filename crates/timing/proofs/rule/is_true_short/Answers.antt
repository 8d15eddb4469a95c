-- Why `timing::is_true_short` answers `is_true_short`: it makes the definition's tests with the distances between the
-- points, and under the ranges no sum wraps. Rests on no axiom.
use Rattle.std.proofs.Common.{arith}
use Rattle.timing.specs.Profile.{swing, advance, is_true_short}
use Rattle.timing.proofs.rule.is_true_short.Goals as goal

pub overflow_add-result : goal.overflow_add-result
unfolding swing advance
overflow_add-result c = omega (arith, c)

pub overflow_add-result-2 : goal.overflow_add-result-2
unfolding swing advance
overflow_add-result-2 c = omega (arith, c)

pub overflow_add-result-3 : goal.overflow_add-result-3
unfolding swing advance
overflow_add-result-3 c = omega (arith, c)

pub returns : goal.returns
unfolding is_true_short
returns c = rw (c.advance-e.ensures, c.swing-d.ensures)

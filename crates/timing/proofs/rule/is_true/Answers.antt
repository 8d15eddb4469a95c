-- Why `timing::is_true` answers `is_true`: it makes the definition's tests with the swing that `swing` gave, and under
-- the ranges no sum wraps. Rests on no axiom.
use Rattle.std.proofs.Common.{arith}
use Rattle.timing.specs.Profile.{swing, is_true}
use Rattle.timing.proofs.rule.is_true.Goals as goal

pub overflow_add-result : goal.overflow_add-result
unfolding swing
overflow_add-result c = omega (arith, c)

pub overflow_add-result-2 : goal.overflow_add-result-2
unfolding swing
overflow_add-result-2 c = omega (arith, c)

pub returns : goal.returns
unfolding is_true
returns c = rw (c.is_true_long.ensures, c.is_true_short.ensures, c.swing-d.ensures)

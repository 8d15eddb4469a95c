-- Why `timing::is_true_long` answers `is_true_long`: it makes the definition's tests with the distance that `delay` gave,
-- and under the ranges no sum wraps. Rests on no axiom.
use Rattle.std.proofs.Common.{arith}
use Rattle.timing.specs.Profile.{delay, is_true_long}
use Rattle.timing.proofs.rule.is_true_long.Goals as goal

pub overflow_add-result : goal.overflow_add-result
unfolding delay
overflow_add-result c = omega (arith, c)

pub overflow_add-result-2 : goal.overflow_add-result-2
unfolding delay
overflow_add-result-2 c = omega (arith, c)

pub returns : goal.returns
unfolding is_true_long
returns c = rw c.delay-l.ensures

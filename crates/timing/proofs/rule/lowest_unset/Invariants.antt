use Rattle.std.proofs.Common.{◌≡◌}
use Rattle.timing.specs.Numbers.{ranges}
use Rattle.timing.proofs.RangeLaws.{unset_from}
use Rattle.timing.proofs.rule.lowest_unset.Given as goal

abbrev pub invariant-loop-k : goal.invariant-loop-k
invariant-loop-k l = unset_from ranges l.numbers l.k ≡ unset_from ranges l.numbers 0

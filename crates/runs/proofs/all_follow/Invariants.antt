use Prim.Native.Nat.{◌+◌}
use mathlib.Core.Path.{◌≡◌}
use mathlib.Core.Bool.{true}
use Rattle.runs.specs.machine.Scan.{Following}
use Rattle.runs.proofs.all_follow.Given as goal

abbrev pub invariant-loop-interval : goal.invariant-loop-interval
invariant-loop-interval l = l.all ≡ true → Following l.short l.intervals l.from (l.from + l.interval-index)

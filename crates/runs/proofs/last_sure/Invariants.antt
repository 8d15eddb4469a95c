use Prim.Native.Nat.{◌+◌, ◌≤◌}
use Rattle.runs.proofs.last_sure.Given as goal

abbrev pub invariant-loop-i : goal.invariant-loop-i
invariant-loop-i l = l.i ≤ l.from + 1

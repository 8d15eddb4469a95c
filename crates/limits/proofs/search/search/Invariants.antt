use Prim.Native.Nat.{◌-◌}
use mathlib.Core.Path.{◌≡◌}
use Rattle.limits.specs.machine.Search.{searched_from, searched}
use Rattle.limits.proofs.search.search.Given as goal

abbrev pub invariant-loop-item : goal.invariant-loop-item
invariant-loop-item l =
    searched_from l.p l.s l.n (28 - l.item) l.item ≡ searched l.p l.s l.n

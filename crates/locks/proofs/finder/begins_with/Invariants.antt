use Prim.Native.Nat.{◌+◌}
use mathlib.Core.Path.{◌≡◌}
use lib.ListN.{drop}
use mathlib.Core.List.{map}
use Rattle.timing.specs.Class.{class_number, classes_from}
use Rattle.locks.specs.Lock.{begins_with}
use Rattle.locks.proofs.finder.begins_with.Given as goal

abbrev pub invariant-loop-i : goal.invariant-loop-i
invariant-loop-i l =
    begins_with (drop l.i (map class_number l.pattern)) (classes_from l.cursor (drop (l.at + l.i) l.intervals))
    ≡ begins_with (map class_number l.pattern) (classes_from l.initial.cursor (drop l.at l.intervals))

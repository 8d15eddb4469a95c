use Prim.Native.Nat.{◌<◌, ◌≤◌}
use mathlib.Core.Path.{◌≡◌}
use mathlib.Core.Bool.{false}
use lib.ListN.{length}
use Rattle.timing.specs.Class.{cursor_of, classes_of}
use Rattle.timing.specs.declared.Profile.{Profile}
use Rattle.runs.specs.machine.Scan.{NoTwos}
use Rattle.runs.proofs.next_two.Given as goal

abbrev pub invariant-loop-i : goal.invariant-loop-i
invariant-loop-i l =
    (l.from < l.i)
    × (l.i ≤ length l.intervals)
    × ((p : Profile)
    → l.long ≡ cursor_of p false
    → NoTwos (classes_of p l.intervals) l.from l.initial.i
    → NoTwos (classes_of p l.intervals) l.from l.i)

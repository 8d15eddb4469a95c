use Prim.Native.Nat.{◌≤◌}
use Rattle.timing.specs.declared.Profile.{Profile}
use Rattle.runs.specs.machine.Scan.{Known}
use Rattle.runs.proofs.cursor_at.Given as goal

abbrev pub invariant-loop-i : goal.invariant-loop-i
invariant-loop-i l =
    (l.i ≤ l.from) × ((p : Profile) → Known p l.intervals l.initial.cursor l.initial.i → Known p l.intervals l.cursor l.i)

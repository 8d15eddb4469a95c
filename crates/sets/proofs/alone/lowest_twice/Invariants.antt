use Prim.Native.Nat.{◌+◌, ◌≤◌}
use mathlib.Core.Path.{◌≡◌}
use lib.ListN.{drop}
use Rattle.lists.specs.Place.{lowest}
use Rattle.sets.specs.Held.{numbers}
use Rattle.sets.proofs.TwiceLaws.{marks_twice}
use Rattle.sets.proofs.alone.lowest_twice.Given as goal

abbrev pub invariant-loop-n : goal.invariant-loop-n
invariant-loop-n l =
    (l.n ≤ 256) × (l.n + lowest (marks_twice l.index) (drop l.n numbers) ≡ lowest (marks_twice l.index) numbers)

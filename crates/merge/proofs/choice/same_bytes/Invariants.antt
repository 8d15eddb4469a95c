use mathlib.Core.Path.{◌≡◌}
use mathlib.Core.Bool.{◌&&◌}
use lib.ListN.{drop}
use Rattle.merge.specs.Merge.{same_bytes}
use Rattle.merge.proofs.choice.same_bytes.Given as goal

abbrev pub invariant-loop-k : goal.invariant-loop-k
invariant-loop-k l =
    (l.same && same_bytes (drop l.k l.a) (drop l.k l.b)) ≡ same_bytes l.a l.b

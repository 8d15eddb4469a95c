use mathlib.Core.Path.{◌≡◌}
use mathlib.Core.Bool.{true}
use lib.ListN.{drop}
use Rattle.limits.specs.machine.Search.{seen_from}
use Rattle.limits.proofs.search.first_seen.Given as goal

abbrev pub invariant-loop-k : goal.invariant-loop-k
invariant-loop-k l =
    seen_from l.p l.s l.n l.item l.two l.k (drop l.k l.intervals) ≡ seen_from l.p l.s l.n l.item true 0 l.intervals

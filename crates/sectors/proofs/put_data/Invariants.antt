use mathlib.Core.Path.{◌≡◌}
use lib.ListN.{length, take}
use Rattle.lists.specs.Filled.{stored_at}
use Rattle.sectors.proofs.put_data.Given as goal

abbrev pub invariant-loop-k : goal.invariant-loop-k
invariant-loop-k l =
    (l.out ≡ stored_at l.initial.out l.at (take l.k l.bytes)) × (length l.out ≡ length l.initial.out)

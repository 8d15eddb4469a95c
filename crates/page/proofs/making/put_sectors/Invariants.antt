use Prim.Native.Nat.{◌*◌}
use mathlib.Core.Path.{◌≡◌}
use lib.ListN.{length}
use Rattle.lists.specs.Filled.{stored_at}
use Rattle.page.specs.Making.{made_set}
use Rattle.page.proofs.MakingLaws.{bytes_after}
use Rattle.page.proofs.making.put_sectors.Given as goal

abbrev pub invariant-loop-k : goal.invariant-loop-k
invariant-loop-k l =
    (length l.set ≡ length l.initial.set)
    × (stored_at l.set (1027 * l.k) (bytes_after l.cells l.pages l.k)
    ≡ stored_at l.initial.set 0 (made_set l.cells l.pages))

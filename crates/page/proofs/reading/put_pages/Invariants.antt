use Prim.Native.Nat.{◌*◌}
use mathlib.Core.Path.{◌≡◌}
use lib.ListN.{length}
use Rattle.lists.specs.Filled.{stored_at}
use Rattle.sets.specs.Set.{sectors_in}
use Rattle.page.specs.Reading.{pages_in, dots_in}
use Rattle.page.proofs.ReadingLaws.{cells_after, dots_after}
use Rattle.page.proofs.reading.put_pages.Given as goal

abbrev pub invariant-loop-k : goal.invariant-loop-k
invariant-loop-k l =
    (length l.cells ≡ length l.initial.cells)
    × (stored_at l.cells (1000 * l.k) (cells_after (sectors_in l.set) l.pages l.k)
    ≡ stored_at l.initial.cells 0 (pages_in (sectors_in l.set) l.pages))
    × (stored_at l.dots l.k (dots_after (sectors_in l.set) l.pages l.k)
    ≡ stored_at l.initial.dots 0 (dots_in (sectors_in l.set) l.pages))

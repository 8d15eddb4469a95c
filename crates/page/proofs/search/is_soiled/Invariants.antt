use mathlib.Core.Path.{◌≡◌}
use mathlib.Core.Bool.{◌||◌}
use lib.ListN.{drop}
use Rattle.lists.specs.Place.{anywhere}
use Rattle.page.specs.Page.{is_dirt}
use Rattle.page.proofs.search.is_soiled.Given as goal

abbrev pub invariant-loop-byte : goal.invariant-loop-byte
invariant-loop-byte l =
    (l.soiled || anywhere is_dirt (drop l.byte-index l.fill)) ≡ anywhere is_dirt l.fill

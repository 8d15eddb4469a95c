use mathlib.Core.Path.{◌≡◌}
use mathlib.Core.List.{◌∷◌}
use lib.ListN.{drop}
use Rattle.lists.specs.Span.{least}
use Rattle.lengths.specs.Margin.{margin_of}
use Rattle.lengths.proofs.least_room.Given as goal

-- the least so far and that of the rooms to come make the least of all
abbrev pub invariant-loop-room : goal.invariant-loop-room
invariant-loop-room l = least (l.least ∷ drop l.room-index l.room-items) ≡ margin_of l.fn.p

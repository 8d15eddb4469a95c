use Rattle.std.proofs.Common.{◌≡◌, length, drop}
use Rattle.lists.specs.Filled.{stored_at}
use Rattle.timing.specs.Class.{Ascending}
use Rattle.clearance.specs.machine.Masks.{masks_from}
use Rattle.clearance.proofs.masks.fill_in_turn.Given as goal

abbrev pub invariant-loop-k : goal.invariant-loop-k
invariant-loop-k l =
    (length l.masks ≡ length l.initial.masks)
    × Ascending l.cursor
    × (stored_at l.masks l.k (masks_from l.cursor (drop l.k l.intervals)) ≡ stored_at l.initial.masks 0 (masks_from l.initial.cursor l.intervals))

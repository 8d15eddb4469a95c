use Rattle.std.proofs.Common.{◌≡◌, map, length, drop}
use Rattle.lists.specs.Filled.{stored_at}
use Rattle.clearance.specs.machine.Masks.{mask_in}
use Rattle.clearance.proofs.masks.fill_alike.Given as goal

abbrev pub invariant-loop-k : goal.invariant-loop-k
invariant-loop-k l =
    (length l.masks ≡ length l.initial.masks)
    × (stored_at l.masks l.k (map (mask_in l.cursor) (drop l.k l.intervals)) ≡ stored_at l.initial.masks 0 (map (mask_in l.cursor) l.intervals))

use Rattle.std.proofs.Common.{◌≡◌, drop}
use Rattle.clearance.specs.machine.Masks.{masked_from}
use Rattle.clearance.proofs.blocks.extremes_by.Given as goal

abbrev pub invariant-loop-k : goal.invariant-loop-k
invariant-loop-k l =
    masked_from (record { shortest = l.shortest; longest = l.longest; from = l.from; below = l.below }) l.short l.long
    (drop l.k l.intervals) (drop l.k l.masks)
    ≡ masked_from (record {
      shortest = l.initial.shortest;
      longest = l.initial.longest;
      from = l.initial.from;
      below = l.initial.below;
    }) l.short l.long
    l.intervals l.masks

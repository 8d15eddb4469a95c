use Prim.Native.Nat.{◌+◌, ◌*◌, ◌≤◌}
use mathlib.Core.Path.{◌≡◌}
use lib.ListN.{drop}
use Rattle.lists.specs.Sum.{sum_of}
use Rattle.pace.specs.Pace.{even_ones, odd_ones}
use Rattle.pace.proofs.Pace.measured.Given as goal

abbrev pub invariant-loop-pair : goal.invariant-loop-pair
invariant-loop-pair l =
    (l.even ≤ 65535 * l.pair)
    × (l.odd ≤ 65535 * l.pair)
    × (l.even + sum_of (even_ones (drop (2 * l.pair) l.run)) ≡ sum_of (even_ones l.run))
    × (l.odd + sum_of (odd_ones (drop (2 * l.pair) l.run)) ≡ sum_of (odd_ones l.run))

use Prim.Native.Nat.{ℕ, ◌*◌, ◌≤◌}
use mathlib.Core.Path.{◌≡◌}
use lib.ListN.{length, get_or, take}
use Rattle.lists.specs.Sum.{sum_of}
use Rattle.page.specs.Page.{dots_of}
use Rattle.page.proofs.dots.count_dots.Given as goal

abbrev pub invariant-loop-turn : goal.invariant-loop-turn
invariant-loop-turn l =
    (length l.columns ≡ 32)
    × (sum_of l.columns ≡ dots_of (take (96 * l.turn) l.page))
    × ((j : ℕ) → get_or l.columns j 0 ≤ 24 * l.turn)

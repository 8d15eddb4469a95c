use Prim.Native.Nat.{ℕ, ◌-◌, ◌≤◌}
use mathlib.Core.Path.{◌≡◌}
use mathlib.Core.List.{List}
use lib.ListN.{length, drop}
use Rattle.items.specs.Written.{written_from, written}
use Rattle.items.specs.declared.Check.{Check}
use Rattle.images.specs.machine.Tally.{no_tally, tallied}
use Rattle.images.specs.declared.count.Tally.{Tally}
use Rattle.images.proofs.count.count_blocks.Given as goal

-- at a place: what is left makes the whole
pub record Counting (items : List ℕ) (tally : Tally) (check : Check) (bytes : List ℕ) (from : ℕ) : Type 0 where
  pub within : from ≤ length items
  pub room : length bytes ≡ 128
  pub whole : tallied tally (written_from check (drop from items)) ≡ tallied no_tally (written items)

abbrev pub invariant-loop-from : goal.invariant-loop-from
invariant-loop-from l = Counting l.items l.tally l.check l.bytes l.from

abbrev pub decreases-loop-from : goal.decreases-loop-from
decreases-loop-from l = length l.items - l.from

use Prim.Native.Nat.{ℕ, ◌+◌, ◌-◌, ◌≤◌}
use mathlib.Core.Path.{◌≡◌}
use mathlib.Core.List.{List}
use lib.ListN.{length, drop}
use Rattle.lists.specs.Filled.{stored_at}
use Rattle.lists.specs.Place.{lowest}
use Rattle.items.specs.Item.{is_check, written_bytes}
use Rattle.items.specs.Written.{after_bytes, written_from}
use Rattle.items.specs.declared.Check.{Check}
use Rattle.items.proofs.bytes.write_bytes.Given as goal

-- at a place: the next check order is told, and what is left makes the whole
pub record Storing (items out₀ : List ℕ) (start : Check) (out : List ℕ) (check : Check) (at from run : ℕ) : Type 0 where
  pub within : from ≤ length items
  pub told : run ≡ lowest is_check (drop from items)
  pub count : at + written_bytes (drop from items) ≡ written_bytes items
  pub stored : stored_at out at (written_from check (drop from items)) ≡ stored_at out₀ 0 (written_from start items)
  pub state : after_bytes check (written_from check (drop from items)) ≡ after_bytes start (written_from start items)

abbrev pub invariant-loop-run : goal.invariant-loop-run
invariant-loop-run l = Storing l.items l.initial.out l.initial.check l.out l.check l.at l.from l.run

abbrev pub decreases-loop-run : goal.decreases-loop-run
decreases-loop-run l = length l.items - l.from

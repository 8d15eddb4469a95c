use Prim.Native.Nat.{ℕ, ◌-◌, ◌≤◌}
use mathlib.Core.Path.{◌≡◌}
use mathlib.Core.List.{List}
use lib.ListN.{length, drop}
use Rattle.lists.specs.Place.{lowest}
use Rattle.items.specs.Item.{is_check}
use Rattle.items.specs.Written.{written_from, written}
use Rattle.items.specs.declared.Check.{Check}
use Rattle.codec.specs.machine.Pen.{Writing, writing, fresh_pen, wrote}
use Rattle.codec.proofs.writer.write_items.Given as goal

-- at a place: the next check order is told, and what is left makes the whole
pub record WritingOn (table items : List ℕ) (s₀ s : Writing) (check : Check) (from run : ℕ) : Type 0 where
  pub within : from ≤ length items
  pub told : run ≡ lowest is_check (drop from items)
  pub whole : wrote table s (written_from check (drop from items)) ≡ wrote table s₀ (written items)

abbrev pub invariant-loop-run : goal.invariant-loop-run
invariant-loop-run l =
    WritingOn l.table l.items (writing fresh_pen l.initial.out) (writing l.part.pen l.out) l.part.check l.from l.run

abbrev pub decreases-loop-run : goal.decreases-loop-run
decreases-loop-run l = length l.items - l.from

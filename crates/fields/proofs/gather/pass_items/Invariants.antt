use Prim.Native.Nat.{◌+◌, ◌-◌}
use mathlib.Core.Path.{◌≡◌}
use lib.ListN.{length}
use Rattle.lists.specs.Filled.{stored_at}
use Rattle.items.specs.Written.{after_bytes}
use Rattle.passes.specs.machine.Blocks.{rest_from}
use Rattle.passes.proofs.BlockLaws.{Fair}
use Rattle.fields.proofs.PartLaws.{items_left}
use Rattle.fields.proofs.gather.pass_items.Given as goal

abbrev pub invariant-loop-words : goal.invariant-loop-words
invariant-loop-words l =
    Fair l.intervals l.at
    × (length l.out ≡ length l.initial.out)
    × (length l.words ≡ 65)
    × ((rest_from l.n l.intervals l.at).end ≡ (rest_from l.n l.intervals l.initial.at).end)
    × (after_bytes l.check (items_left l.n l.intervals l.at) ≡ after_bytes l.initial.check (items_left l.n l.intervals l.initial.at))
    × (stored_at l.out l.at.pass.reading.words (items_left l.n l.intervals l.at) ≡ stored_at l.initial.out 0 (items_left l.n l.intervals l.initial.at))

abbrev pub decreases-loop-words : goal.decreases-loop-words
decreases-loop-words l = l.n - l.at.pass.reading.words + (length l.intervals - l.at.pass.used)

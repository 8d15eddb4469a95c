use Prim.Native.Nat.{ℕ, ◌+◌, ◌-◌}
use mathlib.Core.Path.{◌≡◌}
use mathlib.Core.List.{List, map}
use lib.ListN.{length, drop}
use Rattle.lists.specs.Filled.{stored_at}
use Rattle.passes.proofs.BlockLaws.{Fair}
use Rattle.fields.specs.Bytes.{byte_of}
use Rattle.fields.proofs.PartLaws.{items_left}
use Rattle.fields.proofs.data.pass_bytes.Given as goal

-- the items from a number on that are left to store, the next of them that of another number
abbrev pub left : ℕ → ℕ → List ℕ → List ℕ
left skip number items = drop (skip - number) (map byte_of items)

abbrev pub invariant-loop-words : goal.invariant-loop-words
invariant-loop-words l =
    Fair l.intervals l.at
    × (length l.out ≡ length l.initial.out)
    × (length l.words ≡ 65)
    × (stored_at l.out (l.at.pass.reading.words - l.skip) (left l.skip l.at.pass.reading.words (items_left l.n l.intervals l.at))
    ≡ stored_at l.initial.out 0 (drop l.skip (map byte_of (items_left l.n l.intervals l.initial.at))))

abbrev pub decreases-loop-words : goal.decreases-loop-words
decreases-loop-words l = l.n - l.at.pass.reading.words + (length l.intervals - l.at.pass.used)

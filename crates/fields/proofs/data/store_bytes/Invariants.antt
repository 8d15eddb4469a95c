use Prim.Native.Nat.{◌+◌}
use mathlib.Core.Path.{◌≡◌}
use mathlib.Core.List.{map}
use lib.ListN.{length, drop}
use Rattle.lists.specs.Filled.{stored_at}
use Rattle.fields.specs.Bytes.{byte_of}
use Rattle.fields.proofs.data.store_bytes.Given as goal

abbrev pub invariant-loop-k : goal.invariant-loop-k
invariant-loop-k l =
    (length l.out ≡ length l.initial.out)
    × (stored_at l.out (l.at + l.k) (drop l.k (map byte_of l.items)) ≡ stored_at l.initial.out l.at (map byte_of l.items))

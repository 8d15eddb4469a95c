use Prim.Native.Nat.{◌+◌}
use mathlib.Core.Path.{◌≡◌}
use lib.ListN.{drop}
use Rattle.lists.specs.Filled.{stored_at}
use Rattle.page.proofs.copying.copy.Given as goal

abbrev pub invariant-loop-k : goal.invariant-loop-k
invariant-loop-k l = stored_at l.out (l.at + l.k) (drop l.k l.bytes) ≡ stored_at l.initial.out l.at l.bytes

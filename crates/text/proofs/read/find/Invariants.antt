use Prim.Native.Nat.{◌+◌}
use mathlib.Core.Path.{◌≡◌}
use lib.ListN.{length, drop}
use Rattle.text.specs.Pieces.{up_to}
use Rattle.text.proofs.read.find.Given as goal

abbrev pub invariant-loop-at : goal.invariant-loop-at
invariant-loop-at l =
    l.at + length (up_to l.separator (drop l.at l.text)) ≡ l.from + length (up_to l.separator (drop l.from l.text))

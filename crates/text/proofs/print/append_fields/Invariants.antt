use Prim.Native.Nat.{◌+◌}
use mathlib.Core.Path.{◌≡◌}
use lib.ListN.{length, drop}
use Rattle.lists.specs.Filled.{stored_at}
use Rattle.text.specs.Line.{fields_of}
use Rattle.text.proofs.print.append_fields.Given as goal

abbrev pub invariant-loop-number : goal.invariant-loop-number
invariant-loop-number l =
    (length l.out ≡ length l.initial.out)
    × (l.end + length (fields_of (drop l.number-index l.numbers)) ≡ l.at + length (fields_of l.numbers))
    × (stored_at l.out l.end (fields_of (drop l.number-index l.numbers)) ≡ stored_at l.initial.out l.at (fields_of l.numbers))

use Prim.Native.Nat.{◌-◌, ◌≤◌}
use mathlib.Core.Path.{◌≡◌}
use mathlib.Core.List.{◌++◌, map}
use lib.ListN.{length, take, drop}
use Rattle.text.specs.Decimal.{value_of}
use Rattle.script.specs.machine.Read.{fields_after}
use Rattle.script.proofs.NumberLaws.{fitting}
use Rattle.script.proofs.profile.read_numbers.Given as goal

abbrev pub invariant-loop-at : goal.invariant-loop-at
invariant-loop-at l =
    (length l.numbers ≡ length l.initial.numbers)
    × (l.k ≤ length l.numbers)
    × (fitting l.k (length l.initial.numbers) (fields_after (drop l.at l.line))
    ≡ fitting 0 (length l.initial.numbers) (fields_after (drop l.from l.line)))
    × (take l.k l.numbers ++ map value_of (fields_after (drop l.at l.line)) ≡ map value_of (fields_after (drop l.from l.line)))

abbrev pub decreases-loop-at : goal.decreases-loop-at
decreases-loop-at l = length l.line - l.at

use Prim.Native.Nat.{◌≤◌}
use mathlib.Core.Path.{◌≡◌}
use lib.ListN.{drop}
use Rattle.text.specs.Decimal.{digits_read}
use Rattle.text.proofs.DecimalLaws.{digits_after}
use Rattle.text.proofs.read.parse_digits.Given as goal

abbrev pub invariant-loop-d : goal.invariant-loop-d
invariant-loop-d l =
    (l.value ≤ 65535) × (digits_after l.value (drop l.d-index l.field) ≡ digits_read l.field)

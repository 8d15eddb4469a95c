use Prim.Native.Nat.{◌-◌, ◌≤◌}
use mathlib.Core.Path.{◌≡◌}
use lib.ListN.{length, drop}
use Rattle.lists.specs.Place.{everywhere}
use Rattle.text.specs.Hex.{is_hex_byte}
use Rattle.script.specs.Line.{are_bytes, raised}
use Rattle.script.specs.machine.Read.{fields_after}
use Rattle.script.proofs.BufferLaws.{Storing}
use Rattle.script.proofs.items.read_bytes.Given as goal

abbrev pub invariant-loop-at : goal.invariant-loop-at
invariant-loop-at l =
    (l.at ≤ length l.line)
    × (length l.buffer ≡ length l.initial.buffer)
    × (everywhere is_hex_byte (fields_after (drop l.at l.line)) ≡ are_bytes (fields_after (drop l.from l.line)))
    × Storing l.buffer l.n (raised l.base (fields_after (drop l.at l.line))) l.initial.buffer l.count
    (raised l.base (fields_after (drop l.from l.line)))

abbrev pub decreases-loop-at : goal.decreases-loop-at
decreases-loop-at l = length l.line - l.at

use Prim.Native.Nat.{◌+◌, ◌-◌, ◌≤◌}
use mathlib.Core.Path.{◌≡◌}
use lib.ListN.{length, drop}
use Rattle.text.specs.Ascii.{line_feed}
use Rattle.text.specs.Pieces.{pieces_of}
use Rattle.script.specs.Input.{garbled_from, items_of_lines}
use Rattle.script.proofs.BufferLaws.{Storing}
use Rattle.script.proofs.items.read_items.Given as goal

abbrev pub invariant-loop-at : goal.invariant-loop-at
invariant-loop-at l =
    (l.at ≤ length l.text)
    × (length l.buffer ≡ length l.initial.buffer)
    × (l.count ≤ l.at)
    × (l.line ≤ l.at + 2)
    × (garbled_from l.line (pieces_of line_feed (drop l.at l.text)) ≡ garbled_from 2 (pieces_of line_feed (drop l.from l.text)))
    × Storing l.buffer l.count (items_of_lines (pieces_of line_feed (drop l.at l.text))) l.initial.buffer 0
    (items_of_lines (pieces_of line_feed (drop l.from l.text)))

abbrev pub decreases-loop-at : goal.decreases-loop-at
decreases-loop-at l = length l.text - l.at

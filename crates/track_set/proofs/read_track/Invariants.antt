use Prim.Native.Nat.{◌+◌, ◌*◌, ◌≤◌}
use mathlib.Core.Path.{◌≡◌}
use lib.ListN.{length, drop}
use Rattle.lists.specs.Filled.{stored_at}
use Rattle.track_set.specs.machine.Handed.{handed_bytes, sizes_of, founds_of}
use Rattle.track_set.proofs.read_track.Given as goal

abbrev pub invariant-loop-entry : goal.invariant-loop-entry
invariant-loop-entry l =
    (l.count ≤ l.entry-index)
    × (l.bytes ≤ 1027 * l.entry-index)
    × (l.count + founds_of (drop l.entry-index l.entry-items) ≡ founds_of l.entry-items)
    × (l.bytes + sizes_of (drop l.entry-index l.entry-items) ≡ sizes_of l.entry-items)

abbrev pub invariant-loop-entry-2 : goal.invariant-loop-entry-2
invariant-loop-entry-2 l =
    (length l.out ≡ length l.initial.out)
    × (l.at + length (handed_bytes l.p l.intervals (drop l.entry-index l.entry-items))
    ≡ length (handed_bytes l.p l.intervals l.entry-items))
    × (stored_at l.out l.at (handed_bytes l.p l.intervals (drop l.entry-index l.entry-items))
    ≡ stored_at l.initial.out 0 (handed_bytes l.p l.intervals l.entry-items))

-- Why `read_full` stays within the room: what is filled never passes its end. Rests on no axiom.
use Rattle.std.proofs.Common.{◌≤◌, length}
use Rattle.mfm_strip.proofs.read_full.Given as goal

abbrev pub invariant-loop : goal.invariant-loop
invariant-loop g l = l.filled ≤ length l.room

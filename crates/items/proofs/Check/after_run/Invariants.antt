use Prim.Native.Nat.{◌-◌, ◌≤◌, ◌<◌}
use mathlib.Core.Path.{◌≡◌}
use lib.ListN.{length, drop}
use Rattle.items.specs.Written.{after_bytes}
use Rattle.items.proofs.Check.after_run.Given as goal

abbrev pub invariant-loop-k : goal.invariant-loop-k
invariant-loop-k l =
    (l.from < l.k) × (l.k ≤ length l.bytes) × (after_bytes l.check (drop l.k l.bytes) ≡ after_bytes l.initial.check (drop l.initial.k l.bytes))

abbrev pub decreases-loop-k : goal.decreases-loop-k
decreases-loop-k l = length l.bytes - l.k

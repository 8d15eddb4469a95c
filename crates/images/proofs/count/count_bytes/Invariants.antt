use mathlib.Core.Path.{◌≡◌}
use lib.ListN.{drop}
use Rattle.images.specs.machine.Tally.{tallied}
use Rattle.images.proofs.count.count_bytes.Given as goal

abbrev pub invariant-loop-byte : goal.invariant-loop-byte
invariant-loop-byte l =
    tallied l.tally (drop l.byte-index l.bytes) ≡ tallied l.initial.tally l.bytes

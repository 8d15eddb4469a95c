use Prim.Native.Nat.{◌+◌, ◌-◌}
use mathlib.Core.Path.{◌≡◌}
use lib.ListN.{length}
use Rattle.lists.specs.Filled.{stored_at}
use Rattle.fields.proofs.PartLaws.{items_left}
use Rattle.pace.specs.machine.Cut.{slowed}
use Rattle.speed.proofs.AlongLaws.{Stands}
use Rattle.speed.proofs.gather.pass_over.Given as goal

abbrev pub invariant-loop-pace : goal.invariant-loop-pace
invariant-loop-pace l =
    let ds = slowed l.pace l.intervals in
    Stands l.n ds l.initial.along l.along
    × (length l.out ≡ length l.initial.out)
    × (stored_at l.out l.along.at.pass.reading.words (items_left l.n ds l.along.at)
    ≡ stored_at l.initial.out 0 (items_left l.n ds l.initial.along.at))

abbrev pub decreases-loop-pace : goal.decreases-loop-pace
decreases-loop-pace l =
    l.n - l.along.at.pass.reading.words + (length l.intervals - l.along.at.pass.used)

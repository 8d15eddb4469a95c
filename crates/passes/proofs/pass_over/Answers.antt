-- Why `intervals::pass_over` gives `passed` and stores its words: its part is the whole list. Rests on no axiom.
use lib.Seq.{take-length}
use Rattle.shifts.specs.machine.Pass.{passed}
use Rattle.passes.specs.machine.Blocks.{at_first, words_of}
use Rattle.passes.proofs.BlockLaws.{fair_at_first}
use Rattle.passes.proofs.pass_over.Goals as goal

pub pass_on-at-requires : goal.pass_on-at-requires
pass_on-at-requires c =
    let fair = fair_at_first c.args.intervals.now c.args.p in
    rw c.start.ensures (fair.within, fair.room)

pub returns : goal.returns
unfolding words_of at_first passed
returns c =
    let reached = rw c.start.ensures at c.pass_on-at.ensures.next in
    let output = rw c.start.ensures at c.pass_on-at.ensures.output in
    record { end = rw take-length at reached.pass; output = rw (words_of, take-length) at output }

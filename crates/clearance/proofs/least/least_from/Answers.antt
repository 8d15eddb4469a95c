-- Why `least::least_from` is `least_from`: the extremes of the intervals tell it. Rests on no axiom.
use Rattle.std.proofs.Common.{ap, ◌∙◌, arith}
use Rattle.clearance.specs.machine.Nearest.{least_met}
use Rattle.clearance.specs.declared.seen.Seen.{Seen}
use Rattle.clearance.proofs.SeenLaws.{least_is_met}
use Rattle.clearance.proofs.least.least_from.Goals as goal

pub returns : goal.returns
returns c =
    let start = c.args.start in
    let ds = c.args.intervals.now in
    c.least.ensures
    ∙ ap (least_met start.min.0 start.rpt.0)
    (rw c.none.ensures at (ap (λ (s : Seen). s.extremes) c.with_all.ensures))
    ∙ least_is_met start ds c.requires.reachable (λ k h. omega (arith, c.type_inv.intervals k)) c.requires.intervals_nonzero

-- `Extremes::with` is `met_with`, field by field. Rests on no axiom.
use Rattle.clearance.specs.machine.Nearest.{met_with}
use Rattle.clearance.proofs.extremes.Extremes.with.Goals as goal

pub returns : goal.returns
unfolding met_with
returns c =
    rw (
      c.last-2.ensures,
      c.last_past.ensures,
      c.first-2.ensures,
      c.first_past.ensures,
      c.last.ensures,
      c.first.ensures,
    )

-- Why `shifts_of` answers the distances between the five numbers' points: they are those of the trial profile. Rests on
-- no axiom.
use Rattle.timing.specs.Profile.{swing, advance, delay}
use Rattle.best.proofs.TrialLaws.{trial_in_range}
use Rattle.best.proofs.windows.shifts_of.Goals as goal

pub swing-requires : goal.swing-requires
swing-requires c = rw c.trial-p.ensures (trial_in_range _ c.requires)

pub advance-requires : goal.advance-requires
advance-requires c = rw c.trial-p.ensures (trial_in_range _ c.requires)

pub delay-requires : goal.delay-requires
delay-requires c = rw c.trial-p.ensures (trial_in_range _ c.requires)

pub returns : goal.returns
unfolding swing advance delay
returns c =
    rw (
      c.delay.ensures,
      c.advance.ensures,
      c.swing.ensures,
      c.trial-p.ensures,
    )

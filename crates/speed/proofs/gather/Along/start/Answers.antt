-- Why `Along::start` is `at_onset`: each part is that before any interval. Rests on no axiom.
use mathlib.Core.Path.{refl}
use Rattle.speed.specs.machine.Along.{at_onset}
use Rattle.speed.proofs.gather.Along.start.Goals as goal

pub returns : goal.returns
unfolding at_onset
returns c =
    rw (
      c.start-2.ensures,
      c.none.ensures,
      c.fresh.ensures,
      c.start.ensures,
    )
    refl

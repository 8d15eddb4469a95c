-- Why `sectors::open_field` stores `opening`: two runs and one store, each where the one before it ends. Rests on no
-- axiom.
use mathlib.Core.List.{◌++◌}
use native.Mathlib.Omega.{arith}
use lib.ListN.{replicate}
use Rattle.lists.proofs.StoreLaws.{stored_next, stored_one_more}
use Rattle.sectors.specs.Sector.{opening}
use Rattle.sectors.proofs.open_field.Goals as goal

pub returns : goal.returns
unfolding opening
returns c =
    record {
      next = omega arith;
      output = rw (
        c.repeat-end.ensures.output,
        stored_next (replicate 12 0) (replicate 3 0x1a1) _ _ _ _ c.repeat-marks.ensures.output c.repeat-marks.ensures.next,
      )
          (stored_one_more (replicate 12 0 ++ replicate 3 0x1a1) _ _ _ _ (omega arith));
    }

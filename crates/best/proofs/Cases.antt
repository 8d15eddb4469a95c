-- The worked drive, and refusals beside it, computed. Rests on no axiom.
use mathlib.Core.Path.{refl}
use native.Mathlib.Omega.{arith}
use Rattle.lists.specs.Place.{anywhere, lowest}
use Rattle.best.specs.Best.{writing, unset_of, has_windows, best_margin, best_profile, best_rule}
use Rattle.best.specs.Equal.{equal_margin, WorkedDrive}
use Rattle.best.proofs.EqualLaws.{what_pairs_are_worth}

pub worked_drive : WorkedDrive
unfolding best_rule unset_of anywhere lowest has_windows best_margin best_profile equal_margin
worked_drive =
    record {
      with_pairs = refl;
      profile = refl;
      with_equal_pairs = refl;
      short = refl;
      short_has_no_equal_pairs = (what_pairs_are_worth (writing 58 8 8 10 12) refl).only_unequal (omega arith);
      t0_too_short = refl;
      t1_too_short = refl;
      late_before_normal = refl;
      late_out_of_range = refl;
    }

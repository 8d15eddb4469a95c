-- Machine, not meaning: the five numbers with windows that are in range, so that the profile's rule decides about the
-- five alone.
use Rattle.std.specs.Prelude.{ℕ, suc, cond, Option, Some, None}
use Rattle.lists.specs.Place.{anywhere, lowest, passed}
use Rattle.timing.specs.declared.Profile.{Profile}
use Rattle.best.specs.Best.{unset_of}
use Rattle.best.specs.declared.Writing.{Writing}

abbrev pub trial_of : Writing → Profile
trial_of w =
    record {
      t1 = w.t1;
      t0 = w.t0;
      early = w.early;
      normal = w.normal;
      late = w.late;
      min = record { 0 = 1 };
      short = record { b23 = record { 0 = 1 }; b34 = record { 0 = 1 } };
      long = record { b23 = record { 0 = 1 }; b34 = record { 0 = 1 } };
      rpt = record { 0 = 1 };
    }

-- the lowest place of one of the five out of range, from 1
unfoldable pub lowest_unset_of : Writing → Option ℕ
lowest_unset_of w = cond (anywhere passed (unset_of w)) (Some (suc (lowest passed (unset_of w)))) None

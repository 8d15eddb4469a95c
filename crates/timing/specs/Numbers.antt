-- Document 01, "Profile", and document 02, (ix): the eleven numbers, in order, with their ranges. No lemmas here.
-- Compare points are whole clocks; every length is in half clocks.
use Rattle.std.specs.Prelude.{ℕ, List, [], ◌∷◌, length, slice_index}
use Rattle.timing.specs.declared.Profile.{Profile}
use Rattle.timing.specs.declared.Range.{Range}

-- eleven numbers: T1, T0 (1 to 1,023), Early, Normal, Late (0 to 15), Min, both B23, after-short first, both B34, Rpt
-- (1 to 4,095)
abbrev pub ranges : List Range
ranges =
    record { low = 1; high = 1023 }
    ∷ record { low = 1; high = 1023 }
    ∷ record { low = 0; high = 15 }
    ∷ record { low = 0; high = 15 }
    ∷ record { low = 0; high = 15 }
    ∷ record { low = 1; high = 4095 }
    ∷ record { low = 1; high = 4095 }
    ∷ record { low = 1; high = 4095 }
    ∷ record { low = 1; high = 4095 }
    ∷ record { low = 1; high = 4095 }
    ∷ record { low = 1; high = 4095 }
    ∷ []

-- how many they are
abbrev pub profile_numbers : ℕ
profile_numbers = length ranges

-- the numbers of a profile, in that order
abbrev pub numbers_of : Profile → List ℕ
numbers_of p =
    p.t1.0
    ∷ p.t0.0
    ∷ p.early.0
    ∷ p.normal.0
    ∷ p.late.0
    ∷ p.min.0
    ∷ p.short.b23.0
    ∷ p.long.b23.0
    ∷ p.short.b34.0
    ∷ p.long.b34.0
    ∷ p.rpt.0
    ∷ []

-- the profile of numbers in that order
abbrev pub from_numbers : List ℕ → Profile
from_numbers ns =
    record {
      t1 = record { 0 = slice_index ns 0 };
      t0 = record { 0 = slice_index ns 1 };
      early = record { 0 = slice_index ns 2 };
      normal = record { 0 = slice_index ns 3 };
      late = record { 0 = slice_index ns 4 };
      min = record { 0 = slice_index ns 5 };
      short = record { b23 = record { 0 = slice_index ns 6 }; b34 = record { 0 = slice_index ns 8 } };
      long = record { b23 = record { 0 = slice_index ns 7 }; b34 = record { 0 = slice_index ns 9 } };
      rpt = record { 0 = slice_index ns 10 };
    }

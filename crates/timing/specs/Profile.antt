-- Document 01, "Profile": when a profile's numbers are in range, and when it is true. No lemmas here.
use Rattle.std.specs.Prelude.{ℕ, suc, ◌+◌, ◌-◌, ◌*◌, ◌≤◌, Bool, cond, not, ◌&&◌, ◌||◌, List, [], ◌∷◌, nat_le, nat_lt}
use Rattle.std.specs.Prelude.{Option, Some, None}
use Rattle.lists.specs.Place.{anywhere, lowest, passed}
use Rattle.refusal.specs.Answer.{Answer, accepted, refuse_if}
use Rattle.timing.specs.Numbers.{ranges, numbers_of}
use Rattle.timing.specs.declared.Profile.{Profile}
use Rattle.timing.specs.declared.Range.{Range}

-- x is not one of low to high
abbrev pub outside : ℕ → ℕ → ℕ → Bool
outside low high x = nat_lt x low || nat_lt high x

-- at each place, whether the number is out of its range
abbrev pub outside_of : List Range → List ℕ → List Bool
outside_of [] ns = []
outside_of (range ∷ rs) [] = []
outside_of (range ∷ rs) (n ∷ ns) = outside range.low range.high n ∷ outside_of rs ns

unfoldable pub unset : Profile → List Bool
unset p = outside_of ranges (numbers_of p)

-- D is 2 × (Late − Early)
unfoldable pub swing : Profile → ℕ
swing p = 2 * (p.late.0 - p.early.0)

-- its part before Normal, 2 × (Normal − Early), and its part after it, 2 × (Late − Normal)
unfoldable pub advance : Profile → ℕ
advance p = 2 * (p.normal.0 - p.early.0)

unfoldable pub delay : Profile → ℕ
delay p = 2 * (p.late.0 - p.normal.0)

-- Document 02, (ix): a profile is true when Early ≤ Normal ≤ Late and each length that can be written after each kind of
-- cell is in its window. In `lengths`, which knows what can be written, `TrueByLengths` says that these tests are that.
-- What is taken away stands on the other side, since T1 − D can be below zero. Where the points are out of order the
-- first two lines already fail.

-- after a cell of class 2: T1 < B23 ≤ T1 + T0 + e, T1 + T0 + D < B34 ≤ T1 + 2 × T0 + e
unfoldable pub is_true_short : Profile → Bool
is_true_short p =
    nat_lt p.t1.0 p.short.b23.0
    && nat_le p.short.b23.0 (p.t1.0 + p.t0.0 + advance p)
    && nat_lt (p.t1.0 + p.t0.0 + swing p) p.short.b34.0
    && nat_le p.short.b34.0 (p.t1.0 + 2 * p.t0.0 + advance p)

-- after any other: T1 − l < B23 ≤ T1 + T0, T1 + T0 + l < B34 ≤ T1 + 2 × T0
unfoldable pub is_true_long : Profile → Bool
is_true_long p =
    nat_lt p.t1.0 (p.long.b23.0 + delay p)
    && nat_le p.long.b23.0 (p.t1.0 + p.t0.0)
    && nat_lt (p.t1.0 + p.t0.0 + delay p) p.long.b34.0
    && nat_le p.long.b34.0 (p.t1.0 + 2 * p.t0.0)

-- after both: Min ≤ T1 − D, T1 + 2 × T0 + D < Rpt
unfoldable pub is_true : Profile → Bool
is_true p =
    nat_le p.early.0 p.normal.0
    && nat_le p.normal.0 p.late.0
    && nat_le (p.min.0 + swing p) p.t1.0
    && is_true_short p
    && is_true_long p
    && nat_lt (p.t1.0 + 2 * p.t0.0 + swing p) p.rpt.0

-- 1, unset: the lowest place, 1 to 11. 2, crossed: not true
unfoldable pub profile_rule : Profile → Answer
profile_rule p =
    refuse_if (anywhere passed (unset p)) 1 (suc (lowest passed (unset p)))
    (refuse_if (not (is_true p)) 2 0
    (accepted 0))

-- the lowest place of a number out of range, or 0
unfoldable pub lowest_unset : Profile → ℕ
lowest_unset p = cond (anywhere passed (unset p)) (suc (lowest passed (unset p))) 0

-- and where there is one
unfoldable pub unset_place : Profile → Option ℕ
unset_place p = cond (anywhere passed (unset p)) (Some (suc (lowest passed (unset p)))) None

-- each number is in its range
abbrev pub Inside : List Range → List ℕ → Type 0
Inside [] ns = Unit {0}
Inside (range ∷ rs) [] = Unit {0}
Inside (range ∷ rs) (n ∷ ns) = (range.low ≤ n) × (n ≤ range.high) × Inside rs ns

abbrev pub InRange : Profile → Type 0
InRange p = Inside ranges (numbers_of p)

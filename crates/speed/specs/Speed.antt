-- Document 02, (xi): how fast a drive runs by the intervals before a lock, and those from the lock on corrected by it.
-- No lemmas here.
use Rattle.std.specs.Prelude.{ℕ, ◌-◌, ◌*◌, List, take, drop}
use Rattle.lists.specs.Sum.{sum_of}
use Rattle.refusal.specs.Answer.{Answer}
use Rattle.timing.specs.declared.Profile.{Profile}
use Rattle.pace.specs.Pace.{even_ones, odd_ones, pace_rule, corrected_from}

-- the 64 intervals before a lock
unfoldable pub run_before : List ℕ → ℕ → List ℕ
run_before ds lock = take 64 (drop (lock - 64) ds)

-- S0 is the sum of the even ones and S1 of the odd
abbrev pub s0 : List ℕ → ℕ → ℕ
s0 ds lock = sum_of (even_ones (run_before ds lock))

abbrev pub s1 : List ℕ → ℕ → ℕ
s1 ds lock = sum_of (odd_ones (run_before ds lock))

-- 32 × T1, what each sum is at nominal speed
abbrev pub nominal : Profile → ℕ
nominal p = 32 * p.t1.0

abbrev pub speed_rule : Profile → List ℕ → ℕ → Answer
speed_rule p ds lock = pace_rule (nominal p) (s0 ds lock) (s1 ds lock)

-- the intervals from a lock on: after 64 the first is even again
unfoldable pub corrected_at : Profile → List ℕ → ℕ → List ℕ
corrected_at p ds lock = corrected_from (nominal p) (s0 ds lock) (s1 ds lock) (drop lock ds)

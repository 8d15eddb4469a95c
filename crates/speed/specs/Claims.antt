-- Document 02, (xi): what holds of drives that run slow. No lemmas here.
use Rattle.std.specs.Prelude.{ℕ, ◌+◌, ◌*◌, ◌/◌, ◌≤◌, ◌<◌, ◌≡◌, false, List, [], ◌∷◌, map, length, drop}
use Rattle.refusal.specs.Answer.{accepted}
use Rattle.timing.specs.Profile.{profile_rule}
use Rattle.timing.specs.declared.Profile.{Profile}
use Rattle.locks.specs.Lock.{find_rule}
use Rattle.fields.specs.FieldRule.{field_output}
use Rattle.clearance.specs.Answers.{field_with_clearance}
use Rattle.pace.specs.Pace.{off_speed, corrected}
use Rattle.pace.specs.machine.Cut.{cut_off}
use Rattle.speed.specs.Speed.{s0, s1, nominal, speed_rule, corrected_at}
use Rattle.speed.specs.Reading.{rule_at, reading_at, output_at, corrected_rule, corrected_reading}

-- ---- which lock

-- the entry reads at the lock that the finder finds, and where that finds none, its refusal is the answer
pub record SameLock (p : Profile) (ds : List ℕ) (start n room : ℕ) : Type 0 where
  pub none : ((find_rule p ds start).number ≡ 0 → ⊥) → corrected_rule p ds start n room ≡ find_rule p ds start
  pub at_lock
      : (lock : ℕ)
      → find_rule p ds start ≡ accepted lock
      → (corrected_rule p ds start n room ≡ rule_at p ds lock n room)
      × (corrected_reading p ds start n room ≡ reading_at p ds lock n room)
  pub given
      : (corrected_rule p ds start n room).number ≡ 0
      → ((find_rule p ds start).number ≡ 0) × ((corrected_reading p ds start n room).lock ≡ (find_rule p ds start).count)

-- ---- nominal speed

-- with S0 and S1 both 32 × T1 the answer is in every part that of the field reader at the lock
abbrev pub NominalChangesNothing : Type 0
NominalChangesNothing =
    (p : Profile) (ds : List ℕ) (lock n : ℕ) (old : List ℕ)
    → (profile_rule p).number ≡ 0
    → s0 ds lock ≡ nominal p
    → s1 ds lock ≡ nominal p
    → ((reading_at p ds lock n (length old)).field ≡ field_with_clearance p (drop lock ds) n (length old))
    × (output_at p ds lock n old ≡ field_output p (drop lock ds) n old)

-- ---- how far

-- a difference that is not refused is at most 2 × T1 either way, and a corrected number is then at least 16 d / 17 and at
-- most 16 d / 15, each rounded down
pub record NearSpeed (p : Profile) (s : ℕ) : Type 0 where
  pub above : s ≤ nominal p + 2 * p.t1.0
  pub below : nominal p ≤ s + 2 * p.t1.0
  pub at_least : (d : ℕ) → 16 * d / 17 ≤ corrected (nominal p) s d
  pub at_most : (d : ℕ) → corrected (nominal p) s d ≤ 16 * d / 15

abbrev pub WithinASixteenth : Type 0
WithinASixteenth = (p : Profile) (s : ℕ) → (profile_rule p).number ≡ 0 → off_speed (nominal p) s ≡ false → NearSpeed p s

-- ---- speed drops out

-- one list is the other slowed or hastened by an exact ratio
unfoldable pub Scaled : ℕ → ℕ → List ℕ → List ℕ → Type 0
Scaled a b [] [] = Unit
Scaled a b [] (e ∷ es) = ⊥
Scaled a b (d ∷ ds) [] = ⊥
Scaled a b (d ∷ ds) (e ∷ es) = (e * a ≡ d * b) × Scaled a b ds es

-- then both have the same corrected numbers, and so the same answer but for the differences
pub record SameBySpeed (p : Profile) (ds es : List ℕ) (lock n : ℕ) (old : List ℕ) : Type 0 where
  pub numbers : corrected_at p es lock ≡ corrected_at p ds lock
  pub field : (reading_at p es lock n (length old)).field ≡ (reading_at p ds lock n (length old)).field
  pub output : output_at p es lock n old ≡ output_at p ds lock n old

abbrev pub SpeedDropsOut : Type 0
SpeedDropsOut =
    (p : Profile) (a b : ℕ)
    → 0 < a
    → 0 < b
    → (ds es : List ℕ)
    → Scaled a b ds es
    → (lock n : ℕ) (old : List ℕ)
    → (speed_rule p ds lock).number ≡ 0
    → (speed_rule p es lock).number ≡ 0
    → SameBySpeed p ds es lock n old

-- ---- numbers of 16 and of 32 bits

-- no product needs more than 32 bits
abbrev pub ProductsFit : Type 0
ProductsFit = (p : Profile) (d : ℕ) → (profile_rule p).number ≡ 0 → d < 65536 → d * nominal p < 4294967296

-- numbers that are cut off at 65,535 are answered as they are
abbrev pub CutOffChangesNothing : Type 0
CutOffChangesNothing =
    (p : Profile) (ds : List ℕ) (n : ℕ) (old : List ℕ)
    → (profile_rule p).number ≡ 0
    → (field_with_clearance p (map cut_off ds) n (length old) ≡ field_with_clearance p ds n (length old))
    × (field_output p (map cut_off ds) n old ≡ field_output p ds n old)

pub record SlowDrives : Type 0 where
  pub same_lock : (p : Profile) (ds : List ℕ) (start n room : ℕ) → SameLock p ds start n room
  pub nominal_changes_nothing : NominalChangesNothing
  pub within_a_sixteenth : WithinASixteenth
  pub speed_drops_out : SpeedDropsOut
  pub products_fit : ProductsFit
  pub cut_off_changes_nothing : CutOffChangesNothing

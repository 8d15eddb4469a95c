-- Document 02, (xi): what a drive that runs slow reads of a written list. No lemmas here.
use Rattle.std.specs.Prelude.{ℕ, ◌+◌, ◌-◌, ◌≤◌, ◌<◌, ◌≡◌, true, List, length, get_or, drop}
use Rattle.items.specs.Written.{written}
use Rattle.timing.specs.declared.Profile.{Profile}
use Rattle.symbols.specs.Cells.{written_cells}
use Rattle.lengths.specs.Stream.{stream_of}
use Rattle.lengths.specs.Margin.{after_two}
use Rattle.fields.specs.FieldRule.{field_rule, field_reading, field_output}
use Rattle.speed.specs.Speed.{speed_rule, corrected_at}
use Rattle.speed.specs.Reading.{reading_at, output_at}
use Rattle.demands.specs.Streams.{AcceptedProfile}
use Rattle.demands.specs.Demand3.{stated}

-- the lengths as written, from a lock on
abbrev pub written_from : Profile → List ℕ → ℕ → List ℕ
written_from p items lock = drop lock (stream_of p items)

-- so many numbers are each within c of a length
pub record WithinOf (c used : ℕ) (numbers lengths : List ℕ) : Type 0 where
  pub there : used ≤ length numbers
  pub no_longer : (k : ℕ) → k < used → get_or numbers k 0 ≤ get_or lengths k 0 + c
  pub no_shorter : (k : ℕ) → k < used → get_or lengths k 0 ≤ get_or numbers k 0 + c

-- items, used and holds are those of the field reader over the lengths as written from the lock, and the clearance is at
-- least margin − c
pub record ReadsAsWritten (p : Profile) (items ds : List ℕ) (lock n c : ℕ) (old : List ℕ) : Type 0 where
  pub reading
      : (reading_at p ds lock n (length old)).field.reading ≡ field_reading p (written_from p items lock) n (length old)
  pub output : output_at p ds lock n old ≡ field_output p (written_from p items lock) n old
  pub clear : stated p - c ≤ (reading_at p ds lock n (length old)).field.clearance

-- where the drive is not off speed, the cell before the lock was written as a 2, and every corrected number that is used
-- is within c of the length as written there, c at most the margin
abbrev pub SlowDrivesReadAsWritten : Type 0
SlowDrivesReadAsWritten =
    (p : Profile)
    → AcceptedProfile p
    → (items ds : List ℕ) (lock n c : ℕ) (old : List ℕ)
    → (speed_rule p ds lock).number ≡ 0
    → lock ≤ length (stream_of p items)
    → after_two (written_cells (written items)) lock ≡ true
    → c ≤ stated p
    → (field_rule p (written_from p items lock) n (length old)).number ≡ 0
    → WithinOf c (field_reading p (written_from p items lock) n (length old)).used (corrected_at p ds lock)
    (written_from p items lock)
    → ReadsAsWritten p items ds lock n c old

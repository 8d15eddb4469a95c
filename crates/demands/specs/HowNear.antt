-- Document 02, request (vi): how near a written strip comes to the edges of its windows. No lemmas here.
-- `least_clearance` is the number that the strip reader gives beside its count; the field reader gives the same over the
-- intervals that it used.
use Rattle.std.specs.Prelude.{ℕ, ◌-◌, ◌≤◌, ◌<◌, ◌≡◌, List, [], ◌∷◌, length}
use Rattle.items.specs.Rule.{list_rule}
use Rattle.items.specs.Written.{written}
use Rattle.timing.specs.declared.Profile.{Profile}
use Rattle.clearance.specs.Clearance.{least_clearance}
use Rattle.lengths.specs.Stream.{stream_of}
use Rattle.codec.specs.Reader.{read_rule}
use Rattle.fields.specs.FieldRule.{field_reading}
use Rattle.demands.specs.Streams.{AcceptedProfile, AcceptedList, Moved, ReadsAs}
use Rattle.demands.specs.Demand3.{stated}

-- a stream that reads as a list, given output enough, with a least clearance of so much or more
pub record ReadsClear (p : Profile) (changed ws : List ℕ) (e : ℕ) : Type 0 where
  pub reads : (output : List ℕ) → length ws ≤ length output → ReadsAs p changed output ws
  pub clear : e ≤ least_clearance p changed

-- a one-byte list whose stream has exactly this least clearance
pub record ExactlyClear (p : Profile) (e : ℕ) : Type 0 where
  pub byte : ℕ
  pub accepted : AcceptedList (byte ∷ [])
  pub exactly : least_clearance p (stream_of p (byte ∷ [])) ≡ e

-- under one accepted profile
pub record Clear (p : Profile) : Type 0 where
  -- the stream of an accepted list with each interval changed by at most c, where c is at most the margin: the strip
  -- reader's least is at least margin − c
  pub changed_strip
      : (items : List ℕ)
      → (list_rule items).number ≡ 0
      → (c : ℕ)
      → c ≤ stated p
      → (changed : List ℕ)
      → Moved c (stream_of p items) changed
      → ReadsClear p changed (written items) (stated p - c)
  -- as it was written, at least the margin
  pub written_strip
      : (items : List ℕ) → (list_rule items).number ≡ 0 → ReadsClear p (stream_of p items) (written items) (stated p)
  -- and no number above the margin is the least of every strip
  pub some_strip : ExactlyClear p (stated p)

pub record HowNear : Type 0 where
  pub strips : (p : Profile) → AcceptedProfile p → Clear p
  -- the least exists: what is accepted uses at least one interval
  pub strip_has_intervals : (p : Profile) (ds : List ℕ) (room : ℕ) → (read_rule p ds room).number ≡ 0 → 0 < length ds
  pub field_has_intervals
      : (p : Profile) (ds : List ℕ) (n room : ℕ)
      → (field_reading p ds n room).answer.number ≡ 0
      → 0 < (field_reading p ds n room).used

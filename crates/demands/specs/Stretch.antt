-- Document 02, request (viii): early and late points only move transitions about. No lemmas here.
-- A difference of compare points can be below zero, so the first one stands on the left, added to the sum.
use Rattle.std.specs.Prelude.{ℕ, ◌+◌, ◌-◌, ◌*◌, ◌≤◌, ◌≡◌, List, length}
use Rattle.lists.specs.Sum.{sum_of}
use Rattle.items.specs.Item.{written_bytes}
use Rattle.items.specs.Rule.{list_rule}
use Rattle.items.specs.Written.{written}
use Rattle.symbols.specs.Cells.{written_symbols}
use Rattle.timing.specs.declared.Profile.{Profile}
use Rattle.lengths.specs.Points.{first_point, last_point, zeros_in}
use Rattle.lengths.specs.Stream.{stream_of}
use Rattle.demands.specs.Streams.{AcceptedProfile}

-- the sum of an accepted list's intervals, its first and its last compare point, and its symbols 0
abbrev pub track_length : Profile → List ℕ → ℕ
track_length p items = sum_of (stream_of p items)

abbrev pub first_point_of : Profile → List ℕ → ℕ
first_point_of p items = first_point p (written_symbols (written items))

abbrev pub last_point_of : Profile → List ℕ → ℕ
last_point_of p items = last_point p (written_symbols (written items))

abbrev pub zeros_of : List ℕ → ℕ
zeros_of items = zeros_in (written_symbols (written items))

-- under one accepted profile, for every accepted list, the empty one too
pub record Unstretched (p : Profile) : Type 0 where
  -- for any T1 and T0: the intervals add up to cells × T1 + zeros × T0 + 2 × (last compare point − first compare point)
  pub by_cells_and_zeros
      : (items : List ℕ)
      → (list_rule items).number ≡ 0
      → track_length p items + 2 * first_point_of p items
      ≡ length (stream_of p items) * p.t1.0 + zeros_of items * p.t0.0 + 2 * last_point_of p items
  -- and a list of n written bytes has 16 n + 4 units, 2 for each cell and one for each 0
  pub in_units
      : (items : List ℕ)
      → (list_rule items).number ≡ 0
      → 2 * length (stream_of p items) + zeros_of items ≡ 16 * written_bytes items + 4
  -- where T1 = 2 × T0 they add up to (16n + 4) × T0 + 2 × (last compare point − first compare point)
  pub by_bytes
      : p.t1.0 ≡ 2 * p.t0.0
      → (items : List ℕ)
      → (list_rule items).number ≡ 0
      → track_length p items + 2 * first_point_of p items
      ≡ (16 * written_bytes items + 4) * p.t0.0 + 2 * last_point_of p items
  -- so the sums of two lists of equal n differ by at most 2 × (Late − Early)
  pub near_each_other
      : p.t1.0 ≡ 2 * p.t0.0
      → (items others : List ℕ)
      → (list_rule items).number ≡ 0
      → (list_rule others).number ≡ 0
      → written_bytes items ≡ written_bytes others
      → track_length p items ≤ track_length p others + 2 * (p.late.0 - p.early.0)

abbrev pub CompensationStretchesNothing : Type 0
CompensationStretchesNothing = (p : Profile) → AcceptedProfile p → Unstretched p

-- Which length on a side of an edge is the nearest to it: each cell has a length of its window, after each kind, and
-- the edge has each window whole on one side. Rests on no axiom.
use Prim.Native.Nat.{ℕ, ◌+◌, ◌-◌, ◌*◌, ◌≤◌, ◌<◌}
use mathlib.Core.Bool.{Bool, true, false}
use native.Mathlib.Omega.{arith}
use Rattle.timing.specs.Profile.{swing, advance, delay}
use Rattle.timing.specs.declared.Profile.{Profile}
use Rattle.timing.proofs.ProfileLaws.{Kept}
use Rattle.lengths.proofs.KindLaws.{CellLength, two_short, two_long, three_short, three_long, four_short, four_long}

module _ {p : Profile} (k : Kept p) where
  pub min_nearest : {two : Bool} {l u : ℕ} → CellLength p l two u → p.t1.0 - swing p ≤ l
  min_nearest (two_short low high) = omega (arith, k.parts, low, high)
  min_nearest (three_short low high) = omega (arith, k.parts, low, high)
  min_nearest (four_short low high) = omega (arith, k.parts, low, high)
  min_nearest (two_long low high) = omega (arith, k.parts, low, high)
  min_nearest (three_long low high) = omega (arith, k.parts, low, high)
  min_nearest (four_long low high) = omega (arith, k.parts, low, high)

  pub b23_short_below_nearest : {l u : ℕ} → CellLength p l true u → l < p.short.b23.0 → l ≤ p.t1.0
  b23_short_below_nearest (two_short low high) on = omega (arith, k.parts, low, high, on, k.above_b23_short)
  b23_short_below_nearest (three_short low high) on = omega (arith, k.parts, low, high, on, k.above_b23_short)
  b23_short_below_nearest (four_short low high) on = omega (arith, k.parts, low, high, on, k.above_b23_short)

  pub b23_short_above_nearest
      : {l u : ℕ} → CellLength p l true u → p.short.b23.0 ≤ l → p.t1.0 + p.t0.0 + advance p ≤ l
  b23_short_above_nearest (two_short low high) on = omega (arith, k.parts, low, high, on, k.below_b23_short)
  b23_short_above_nearest (three_short low high) on = omega (arith, k.parts, low, high, on, k.below_b23_short)
  b23_short_above_nearest (four_short low high) on = omega (arith, k.parts, low, high, on, k.below_b23_short)

  pub b23_long_below_nearest : {l u : ℕ} → CellLength p l false u → l < p.long.b23.0 → l ≤ p.t1.0 - delay p
  b23_long_below_nearest (two_long low high) on = omega (arith, k.parts, low, high, on, k.above_b23_long)
  b23_long_below_nearest (three_long low high) on = omega (arith, k.parts, low, high, on, k.above_b23_long)
  b23_long_below_nearest (four_long low high) on = omega (arith, k.parts, low, high, on, k.above_b23_long)

  pub b23_long_above_nearest : {l u : ℕ} → CellLength p l false u → p.long.b23.0 ≤ l → p.t1.0 + p.t0.0 ≤ l
  b23_long_above_nearest (two_long low high) on = omega (arith, k.parts, low, high, on, k.below_b23_long)
  b23_long_above_nearest (three_long low high) on = omega (arith, k.parts, low, high, on, k.below_b23_long)
  b23_long_above_nearest (four_long low high) on = omega (arith, k.parts, low, high, on, k.below_b23_long)

  pub b34_short_below_nearest : {l u : ℕ} → CellLength p l true u → l < p.short.b34.0 → l ≤ p.t1.0 + p.t0.0 + swing p
  b34_short_below_nearest (two_short low high) on = omega (arith, k.parts, low, high, on, k.above_b34_short)
  b34_short_below_nearest (three_short low high) on = omega (arith, k.parts, low, high, on, k.above_b34_short)
  b34_short_below_nearest (four_short low high) on = omega (arith, low, on, k.above_b34_short)

  pub b34_short_above_nearest
      : {l u : ℕ} → CellLength p l true u → p.short.b34.0 ≤ l → p.t1.0 + 2 * p.t0.0 + advance p ≤ l
  b34_short_above_nearest (two_short low high) on = omega (arith, k.parts, low, high, on, k.below_b34_short)
  b34_short_above_nearest (three_short low high) on = omega (arith, k.parts, low, high, on, k.below_b34_short)
  b34_short_above_nearest (four_short low high) on = omega (arith, k.parts, low, high, on, k.below_b34_short)

  pub b34_long_below_nearest : {l u : ℕ} → CellLength p l false u → l < p.long.b34.0 → l ≤ p.t1.0 + p.t0.0 + delay p
  b34_long_below_nearest (two_long low high) on = omega (arith, k.parts, low, high, on, k.above_b34_long)
  b34_long_below_nearest (three_long low high) on = omega (arith, k.parts, low, high, on, k.above_b34_long)
  b34_long_below_nearest (four_long low high) on = omega (arith, low, on, k.above_b34_long)

  pub b34_long_above_nearest : {l u : ℕ} → CellLength p l false u → p.long.b34.0 ≤ l → p.t1.0 + 2 * p.t0.0 ≤ l
  b34_long_above_nearest (two_long low high) on = omega (arith, k.parts, low, high, on, k.below_b34_long)
  b34_long_above_nearest (three_long low high) on = omega (arith, k.parts, low, high, on, k.below_b34_long)
  b34_long_above_nearest (four_long low high) on = omega (arith, k.parts, low, high, on, k.below_b34_long)

  pub rpt_nearest : {two : Bool} {l u : ℕ} → CellLength p l two u → l ≤ p.t1.0 + 2 * p.t0.0 + swing p
  rpt_nearest (two_short low high) = omega (arith, k.parts, low, high)
  rpt_nearest (three_short low high) = omega (arith, k.parts, low, high)
  rpt_nearest (four_short low high) = omega (arith, k.parts, low, high)
  rpt_nearest (two_long low high) = omega (arith, k.parts, low, high)
  rpt_nearest (three_long low high) = omega (arith, k.parts, low, high)
  rpt_nearest (four_long low high) = omega (arith, k.parts, low, high)

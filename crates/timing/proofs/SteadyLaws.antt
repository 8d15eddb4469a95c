-- Where the bounds are the same now and after either kind, the classing stands behind an interval as it stood before it.
-- Rests on no axiom.
use Rattle.std.proofs.Common.{◌≡◌, ℕ, Bool, true, false, sym, ap, ap₂, eqb-true}
use Rattle.timing.specs.Class.{class_in, is_two, behind, cursor_past}
use Rattle.timing.specs.machine.Edges.{is_steady}
use Rattle.timing.specs.declared.Bounds.{Bounds}
use Rattle.timing.specs.declared.cursor.Cursor.{Cursor}
use Rattle.timing.proofs.ProfileLaws.{first_holds, second_holds}

abbrev bounds_at : ℕ → ℕ → Bounds
bounds_at x y = record { b23 = record { 0 = x }; b34 = record { 0 = y } }

same_bounds : (a b : Bounds) → a.b23.0 ≡ b.b23.0 → a.b34.0 ≡ b.b34.0 → b ≡ a
same_bounds a b e f = ap₂ bounds_at (sym e) (sym f)

module _ (c : Cursor) (steady : is_steady c ≡ true) where
  record Same : Type 0 where
    short_23 : c.bounds.b23.0 ≡ c.short.b23.0
    short_34 : c.bounds.b34.0 ≡ c.short.b34.0
    long_23 : c.bounds.b23.0 ≡ c.long.b23.0
    long_34 : c.bounds.b34.0 ≡ c.long.b34.0

  same : Same
  unfolding is_steady
  same = search (steady, eqb-true, first_holds, second_holds) depth 8

  abbrev with_bounds : Bounds → Cursor
  with_bounds b = record { min = c.min; bounds = b; rpt = c.rpt; short = c.short; long = c.long }

  stays : (two : Bool) → behind c two ≡ c
  unfolding behind
  stays true = ap with_bounds (same_bounds c.bounds c.short same.short_23 same.short_34)
  stays false = ap with_bounds (same_bounds c.bounds c.long same.long_23 same.long_34)

  pub steady_stays : (d : ℕ) → cursor_past c d ≡ c
  unfolding cursor_past
  steady_stays d = stays (is_two (class_in c d))

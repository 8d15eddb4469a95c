-- Why `best_margin` answers `best_margin`: it takes the lesser of the definition's two, and where some windows are true
-- nothing is cut off. Rests on no axiom.
use Prim.Native.Nat.{◌<◌}
use mathlib.Core.Path.{◌≡◌}
use mathlib.Core.Bool.{true}
use native.Mathlib.Omega.{arith}
use Rattle.best.specs.Best.{swing_of, advance_of, delay_of, has_windows, best_margin}
use Rattle.best.specs.declared.Writing.{Writing}
use Rattle.best.specs.declared.windows.Shifts.{Shifts}
use Rattle.best.proofs.MarginLaws.{possible}
use Rattle.best.proofs.windows.best_margin.Goals as goal

below
    : (w : Writing) (s : Shifts)
    → has_windows w ≡ true
    → s ≡ record { d = swing_of w; e = advance_of w; l = delay_of w }
    → (s.d < w.t1.0) × (s.l < w.t0.0)
below w s some e = let k = possible w some in rw e (k.below_t1, k.below_t0)

pub overflow_sub-w : goal.overflow_sub-w
overflow_sub-w c = let h = below _ _ c.requires.w_value c.shifts_of-s.ensures in omega (arith, h)

pub overflow_sub-w-2 : goal.overflow_sub-w-2
overflow_sub-w-2 c = let h = below _ _ c.requires.w_value c.shifts_of-s.ensures in omega (arith, h)

pub overflow_sub-w-3 : goal.overflow_sub-w-3
overflow_sub-w-3 c = let h = below _ _ c.requires.w_value c.shifts_of-s.ensures in omega (arith, h)

pub overflow_sub-w-4 : goal.overflow_sub-w-4
overflow_sub-w-4 c = let h = below _ _ c.requires.w_value c.shifts_of-s.ensures in omega (arith, h)

pub returns : goal.returns
unfolding best_margin
returns c = rw (c.min.ensures, c.shifts_of-s.ensures)

-- The difference of two sums fits a signed 32-bit number. Rests on no axiom.
use Prim.Native.Nat.{ℕ, zero, suc, ◌-◌, ◌≤◌}
use mathlib.Core.Path.{◌≡◌, ap₂, ◌∙◌}
use mathlib.Core.Bool.{Bool, true, false, cond}
use native.Mathlib.Omega.{arith}
use lib.Dec.{ltb}
use lib.IntN.{ℤ, pos, negsuc, ◌-ℤ◌}
use mir.Syntax.{w32}
use mir.Val.{SFits, to_z, of_z}
use mir.Facts.{to_z-of_z, to_z_pos}

parted_fits
    : (t : Bool) (e s : ℕ) → e ≤ 4194240 → s ≤ 4194240 → SFits w32 (cond t (negsuc (s - suc e)) (pos (e - s)))
parted_fits true e s he hs = record { sfits = omega arith }
parted_fits false e s he hs = record { sfits = omega arith }

signed_fits : (e s : ℕ) → e ≤ 4194240 → s ≤ 4194240 → SFits w32 (pos e -ℤ pos s)
signed_fits e zero he hs = record { sfits = omega arith }
signed_fits e (suc s) he hs = parted_fits (ltb e (suc s)) e (suc s) he hs

module _ (sum full : ℕ) (he : sum ≤ 4194240) (hs : full ≤ 4194240) where
  pub as_signed : to_z w32 sum -ℤ to_z w32 full ≡ pos sum -ℤ pos full
  as_signed =
      ap₂ (λ (x y : ℤ). x -ℤ y) (to_z_pos w32 {n = sum} (omega arith)) (to_z_pos w32 {n = full} (omega arith))

  pub difference_fits : SFits w32 (to_z w32 sum -ℤ to_z w32 full)
  difference_fits = rw as_signed (signed_fits sum full he hs)

  pub difference_reads_back : to_z w32 (of_z w32 (to_z w32 sum -ℤ to_z w32 full)) ≡ pos sum -ℤ pos full
  difference_reads_back = to_z-of_z difference_fits ∙ as_signed

  -- and a field that holds it
  pub difference_is_kept : (z : ℤ) → z ≡ pos sum -ℤ pos full → to_z w32 (of_z w32 z) ≡ pos sum -ℤ pos full
  difference_is_kept z e = rw e (to_z-of_z (signed_fits sum full he hs))

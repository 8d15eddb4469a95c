-- Why `units::choose` gives one of the two: all ones keep the whole difference, none keeps nothing of it. Rests on no
-- axiom.
use Rattle.std.proofs.Common.{◌≡◌, ℕ, ◌+◌, ◌%◌, ◌^◌, ◌<◌, Bool, true, false, cond, refl, ap, ◌∙◌, arith}
use lib.Bits.{bit_and, and_mask, and_zero_r}
use Rattle.intervals.specs.machine.Either.{mask_of}
use Rattle.intervals.proofs.units.choose.Goals as goal

chosen : (short long gap mask r : ℕ)
    → short < 2 ^ 16
    → long < 2 ^ 16
    → gap < 2 ^ 16
    → (gap + long) % 2 ^ 16 ≡ short
    → r ≡ (long + bit_and gap mask) % 2 ^ 16
    → (two : Bool)
    → mask ≡ mask_of two
    → r ≡ cond two short long
unfolding mask_of
chosen short long gap mask r s l g wraps sum true all =
    let kept : bit_and gap mask ≡ gap % 2 ^ 16 = ap (bit_and gap) all ∙ and_mask gap 16 in omega arith
chosen short long gap mask r s l g wraps sum false none =
    let kept : bit_and gap mask ≡ 0 = ap (bit_and gap) none ∙ and_zero_r gap in omega arith

pub returns : goal.returns
returns c = chosen _ _ _ _ _ (omega arith) (omega arith) (omega arith) (omega arith) refl

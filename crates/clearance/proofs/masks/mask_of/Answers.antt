-- Why `masks::mask_of` is `mask_of`: one below 0 is all ones. Rests on no axiom.
use Rattle.std.proofs.Common.{◌≡◌, ◌+◌, ◌-◌, ◌%◌, Bool, true, false, refl}
use mir.Val.{bool_byte}
use Rattle.clearance.specs.machine.Masks.{mask_of}
use Rattle.clearance.proofs.masks.mask_of.Goals as goal

below_zero : (two : Bool) → (0 + (65536 - bool_byte two)) % 65536 ≡ mask_of two
below_zero true = refl
below_zero false = refl

pub returns : goal.returns
returns c = below_zero c.args.two

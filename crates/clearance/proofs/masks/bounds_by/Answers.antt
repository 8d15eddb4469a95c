-- Why `masks::bounds_by` is `bounds_by`: each of the two is chosen alike. Rests on no axiom.
use Rattle.std.proofs.Common.{◌≡◌, Bool, true, false, cond, refl}
use Rattle.timing.specs.declared.Bounds.{Bounds}
use Rattle.clearance.specs.machine.Masks.{is_ones}
use Rattle.clearance.proofs.masks.bounds_by.Goals as goal

each_alike : (two : Bool) (short long : Bounds)
    → record { b23 = cond two short.b23 long.b23; b34 = cond two short.b34 long.b34 } ≡ cond two short long
each_alike true short long = refl
each_alike false short long = refl

pub returns : goal.returns
returns c =
    let args = c.args in
    rw (c.chosen.ensures, c.chosen-2.ensures) (each_alike (is_ones args.mask) args.short args.long)

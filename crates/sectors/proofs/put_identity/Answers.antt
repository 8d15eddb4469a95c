-- Why `sectors::put_identity` stores the four bytes and the check order: it is a store for each, one place after the
-- other. Rests on no axiom.
use Prim.Native.Nat.{suc, ◌+◌}
use mathlib.Core.Path.{◌≡◌, refl}
use native.Mathlib.Omega.{arith}
use Rattle.lists.specs.Filled.{stored_at}
use Rattle.sectors.specs.Sector.{identity}
use Rattle.sectors.proofs.put_identity.Goals as goal

pub returns : goal.returns
unfolding stored_at identity
returns c =
    let at = c.args.at in
    let one : at + 1 ≡ suc at = omega arith in
    let two : at + 2 ≡ suc (suc at) = omega arith in
    let three : at + 3 ≡ suc (suc (suc at)) = omega arith in
    let four : at + 4 ≡ suc (suc (suc (suc at))) = omega arith in
    record { next = refl; output = rw (one, two, three, four) }

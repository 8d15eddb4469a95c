-- Why `merge::output::put_sector` stores the sector's bytes: three stores, then its data where they end. Rests on no
-- axiom.
use Prim.Native.Nat.{suc, ◌+◌}
use mathlib.Core.Path.{◌≡◌, ◌∙◌}
use native.Mathlib.Nat.{add-sub_cancel_left}
use native.Mathlib.Omega.{arith}
use Rattle.lists.specs.Filled.{stored_at}
use Rattle.sets.specs.machine.Index.{sector_at}
use Rattle.sets.specs.Set.{sector_bytes, sector_of}
use Rattle.merge.proofs.OutputLaws.{sector_bytes-length, byte_of_bool}
use Rattle.merge.proofs.output.put_sector.Goals as goal

pub returns : goal.returns
unfolding stored_at sector_bytes sector_at sector_of
returns c =
    let at = c.args.start in
    let size = c.sector_size-size.ensures in
    let sum = c.from.ensures ∙ byte_of_bool _ in
    let one : at + 1 ≡ suc at = omega arith in
    let two : at + 2 ≡ suc (suc at) = omega arith in
    let three : at + 3 ≡ suc (suc (suc at)) = omega arith in
    record {
      next = omega (arith, size, sector_bytes-length c.args.set.now c.args.code c.requires.1);
      output = rw (one, two, three, add-sub_cancel_left, size, sum) at c.copy.ensures;
    }

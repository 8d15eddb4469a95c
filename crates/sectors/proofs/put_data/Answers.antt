-- Why `sectors::put_data` stores the bytes and the check order: after k turns it has stored the first k bytes. Rests on
-- no axiom.
use mathlib.Core.Path.{◌≡◌, refl, sym}
use native.Mathlib.Omega.{arith}
use lib.ListN.{length, length-set}
use lib.Seq.{take-length}
use Rattle.lists.specs.Filled.{stored_at}
use Rattle.lists.proofs.StoreLaws.{stored_none, stored_copies, stored_one_more}
use Rattle.sectors.proofs.put_data.Goals as goal

pub loop-k-init : goal.loop-k-init
loop-k-init c = (sym (stored_none _ _), refl)

pub loop-k-preserved : goal.loop-k-preserved
loop-k-preserved c =
    let args = c.args in (
      cc (stored_copies c.loop-k.k args.at args.bytes.now args.out.now 0 (omega arith)),
      simp length-set c.loop-k.invariant.1,
    )

pub returns : goal.returns
returns c =
    let args = c.args in
    let all : c.loop-k.k ≡ length args.bytes.now = omega (arith, c.loop-k.auto.k-end, c.loop-k-test.false) in
    let stored : c.loop-k.out ≡ stored_at args.out.now args.at args.bytes.now =
    cc (all, take-length args.bytes.now) in
    record {
      next = refl;
      output = cc (stored_one_more args.bytes.now args.out.now args.at _ 512 refl);
    }

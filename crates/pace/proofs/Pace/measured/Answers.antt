-- Why `Pace::measured` has the two sums: what was added up and what is left stay the same from pair to pair. Rests on no
-- axiom.
use Prim.Native.Nat.{suc, ◌+◌, ◌*◌, ◌<◌}
use mathlib.Core.Path.{◌≡◌, refl}
use native.Mathlib.Numerals.{add-one}
use native.Mathlib.Omega.{arith}
use lib.ListN.{length, drop_of_length-le}
use Rattle.pace.proofs.CutLaws.{even_here, odd_here, even_of_none, odd_of_none}
use Rattle.pace.proofs.Pace.measured.Goals as goal

pub loop-pair-preserved : goal.loop-pair-preserved
loop-pair-preserved c =
    let (few_even, few_odd, even, odd) = c.loop-pair.invariant in
    let run = c.args.run.now in
    let k = 2 * c.loop-pair.pair in
    let room : suc k < length run = omega (arith, c.loop-pair-test.true, c.requires.run_len) in
    let next : 2 * (c.loop-pair.pair + 1) ≡ suc (suc k) = omega arith in
    let first = c.type_inv.run k in
    let second = c.type_inv.run (suc k) in
    rw (next, add-one k) (
      omega (arith, few_even, first),
      omega (arith, few_odd, second),
      omega (arith, even, even_here run k room),
      omega (arith, odd, odd_here run k room),
    )

pub returns : goal.returns
returns c =
    let (few_even, few_odd, even, odd) = c.loop-pair.invariant in
    let run = c.args.run.now in
    let k = 2 * c.loop-pair.pair in
    let none = drop_of_length-le run {i = k} (omega (arith, c.loop-pair-test.false, c.requires.run_len)) in
    record {
      nominal = refl;
      even = let last = rw (none, even_of_none) at even in omega (arith, last);
      odd = let last = rw (none, odd_of_none) at odd in omega (arith, last);
      small =
          record {
            nominal = omega (arith, c.requires.t1_bound);
            even = omega (arith, few_even, c.loop-pair.auto.pair-end);
            odd = omega (arith, few_odd, c.loop-pair.auto.pair-end);
          };
    }

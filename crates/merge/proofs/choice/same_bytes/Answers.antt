-- Why `merge::choice::same_bytes` answers `same_bytes`: whether the bytes so far are alike, and whether the rest is,
-- stay one answer from turn to turn. Rests on no axiom.
use Prim.Native.Nat.{◌≤◌}
use mathlib.Core.Path.{sym, ◌∙◌}
use mathlib.Core.Bool.{and_assoc, and-true}
use native.Mathlib.Numerals.{add-one}
use native.Mathlib.Omega.{arith}
use lib.Seq.{drop-cons}
use lib.ListN.{length, drop_of_length-le}
use Rattle.merge.specs.Merge.{same_bytes}
use Rattle.merge.proofs.ChoiceLaws.{unlike_lengths_are_unlike}
use Rattle.merge.proofs.choice.same_bytes.Goals as goal

pub returns-then-a-b : goal.returns-then-a-b
returns-then-a-b c = sym (unlike_lengths_are_unlike _ _ c.if-a-b.true)

pub loop-k-preserved : goal.loop-k-preserved
unfolding same_bytes
loop-k-preserved c =
    let k = c.loop-k.k in
    let args = c.args in
    let rest =
    rw (drop-cons args.a.now k 0 c.loop-k-test.true, drop-cons args.b.now k 0 (omega arith)) at
    c.loop-k.invariant in
    rw add-one (and_assoc c.loop-k.same _ _ ∙ rest)

pub returns : goal.returns
unfolding same_bytes
returns c =
    let end : length c.args.b.now ≤ c.loop-k.k = omega arith in
    rw (drop_of_length-le c.args.a.now c.loop-k-test.false, drop_of_length-le c.args.b.now end, and-true) at
    c.loop-k.invariant

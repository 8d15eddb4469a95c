-- Why `merge::numbers::count_numbers` counts the numbers that one of two indexes has: what was counted and what is left
-- to count stay one sum from turn to turn, and outside of the span there is none. Rests on no axiom.
use Prim.Native.Nat.{◌<◌}
use native.Mathlib.Omega.{arith}
use Rattle.sets.specs.Held.{how_many}
use Rattle.sets.proofs.NumberLaws.{numbers_from}
use Rattle.sets.proofs.SpanLaws.{count_before, count_after}
use Rattle.merge.specs.machine.Tests.{entry_in_either}
use Rattle.merge.proofs.BothSpanLaws.{no_entry}
use Rattle.merge.proofs.numbers.count_numbers.Goals as goal
use Rattle.merge.proofs.numbers.count_numbers.Goals.{then-in_either, else-in_either}

pub loop-n-init : goal.loop-n-init
loop-n-init c =
    let f = entry_in_either c.args.a.now c.args.b.now in
    let all = count_before _ _ _ c.requires.0 c.requires.1 f (no_entry _ _) in
    (c.requires.0.low_ends, omega arith, omega (arith, all))

pub loop-n-preserved : goal.loop-n-preserved
unfolding entry_in_either how_many
loop-n-preserved c =
    let inside : c.loop-n.n < 256 = omega (arith, c.requires.0.high_ends) in
    let sum =
    rw (numbers_from c.loop-n.n inside, ← c.in_either.ensures) at c.loop-n.invariant.2 in
    elim c.if-in_either.branch [
      | then-in_either w ↦ (omega arith, omega arith, omega (arith, rw w.if-in_either.true at sum, w.count-is))
      | else-in_either w ↦ (omega arith, omega arith, omega (arith, rw w.if-in_either.false at sum, w.count-is))
    ]

pub returns : goal.returns
returns c =
    let f = entry_in_either c.args.a.now c.args.b.now in
    let rest =
    count_after _ _ _ c.requires.0 c.requires.1 f (no_entry _ _) _ c.loop-n-test.false c.loop-n.invariant.0 in
    omega (arith, rest, c.loop-n.invariant.2)

-- Why `units::all_sure` tells whether none lies between the two B23: what was told and what is left to tell stay the same
-- from turn to turn, of the two in order as of those given. Rests on no axiom.
use Rattle.std.proofs.Common.{ℕ, sym, ◌∙◌, ap₂, add-one, drop_of_length-le, drop-cons}
use mathlib.Core.Bool.{and-true, and_assoc}
use Rattle.lists.specs.Place.{everywhere}
use Rattle.intervals.specs.machine.Either.{one_side}
use Rattle.intervals.proofs.EitherLaws.{sorted_are_sure}
use Rattle.intervals.proofs.units.all_sure.Goals as goal

pub loop-interval-preserved : goal.loop-interval-preserved
unfolding everywhere
loop-interval-preserved c =
    let inside = c.loop-interval-test.true in
    let here = drop-cons c.args.intervals.now c.loop-interval.interval-index 0 inside in
    rw (c.is_clear-all.ensures, add-one) (and_assoc c.loop-interval.all _ _ ∙ rw here at c.loop-interval.invariant)

pub returns : goal.returns
unfolding everywhere
returns c =
    let ds = c.args.intervals.now in
    let none = drop_of_length-le ds {i = c.loop-interval.interval-index} c.loop-interval-test.false in
    sym (and-true c.loop-interval.all) ∙ rw none at c.loop-interval.invariant
    ∙ ap₂ (λ (low high : ℕ). everywhere (one_side low high) ds) c.min-low.ensures c.max-high.ensures
    ∙ sorted_are_sure c.args.short c.args.long ds

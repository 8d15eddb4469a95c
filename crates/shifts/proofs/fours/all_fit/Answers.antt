-- Why `fours::all_fit` tells whether all fit: what was told and what is left to tell stay the same from turn to turn.
-- Rests on no axiom.
use Rattle.std.proofs.Common.{sym, refl, ◌∙◌, add-one, drop_of_length-le, drop-cons}
use mathlib.Core.Bool.{and-true, and_assoc}
use Rattle.lists.specs.Place.{everywhere}
use Rattle.shifts.proofs.fours.all_fit.Goals as goal

pub loop-word-init : goal.loop-word-init
loop-word-init c = refl

pub loop-word-preserved : goal.loop-word-preserved
unfolding everywhere
loop-word-preserved c =
    let inside = c.loop-word-test.true in
    let here = drop-cons c.args.words.now c.loop-word.word-index 0 inside in
    rw (c.fits-all.ensures, add-one) (and_assoc c.loop-word.all _ _ ∙ rw here at c.loop-word.invariant)

pub returns : goal.returns
unfolding everywhere
returns c =
    let none = drop_of_length-le c.args.words.now {i = c.loop-word.word-index} c.loop-word-test.false in
    sym (and-true c.loop-word.all) ∙ rw none at c.loop-word.invariant

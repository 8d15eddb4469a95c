-- Why `list::all_items` tells whether all are items: what was told and what is left to tell stay the same from turn to
-- turn. Rests on no axiom.
use mathlib.Core.Path.{sym, ◌∙◌}
use mathlib.Core.Bool.{and-true, and_assoc}
use native.Mathlib.Numerals.{add-one}
use lib.ListN.{drop_of_length-le}
use lib.Seq.{drop-cons}
use Rattle.lists.specs.Place.{everywhere}
use Rattle.items.proofs.list.all_items.Goals as goal

pub loop-item-preserved : goal.loop-item-preserved
unfolding everywhere
loop-item-preserved c =
    let here = drop-cons c.args.items.now c.loop-item.item-index 0 c.loop-item-test.true in
    rw (c.is_item-all.ensures, add-one) (and_assoc c.loop-item.all _ _ ∙ rw here at c.loop-item.invariant)

pub returns : goal.returns
unfolding everywhere
returns c =
    let none = drop_of_length-le c.args.items.now {i = c.loop-item.item-index} c.loop-item-test.false in
    sym (and-true c.loop-item.all) ∙ rw none at c.loop-item.invariant

-- Why `page::copying::copy` stores the bytes: what is left of them goes to the place reached. Rests on no axiom.
use mathlib.Core.Path.{sym, ◌∙◌}
use native.Mathlib.Numerals.{add-one}
use lib.ListN.{drop_of_length-le}
use Rattle.lists.proofs.StoreLaws.{stored_none, stored_rest}
use Rattle.page.proofs.copying.copy.Goals as goal

pub loop-k-preserved : goal.loop-k-preserved
loop-k-preserved c = rw add-one (stored_rest _ _ _ _ 0 c.loop-k-test.true ∙ c.loop-k.invariant)

pub returns : goal.returns
returns c =
    let all = drop_of_length-le c.args.bytes.now c.loop-k-test.false in
    sym (stored_none _ _) ∙ rw all at c.loop-k.invariant

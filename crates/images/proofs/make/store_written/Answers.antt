-- `make::store_written` stores a list as it is where it writes no more bytes than it has numbers: then it has no check
-- order, and is its own bytes. Rests on no axiom.
use mathlib.Core.Path.{sym, ap, ◌∙◌}
use Rattle.lists.specs.Filled.{stored_at}
use Rattle.items.specs.Written.{written_from, written}
use Rattle.items.specs.declared.Check.{Check}
use Rattle.items.proofs.ItemLaws.{one_byte_each_is_no_check}
use Rattle.items.proofs.WrittenLaws.{written_of_no_check}
use Rattle.images.proofs.make.store_written.Goals as goal

pub returns-then-bytes-items : goal.returns-then-bytes-items
returns-then-bytes-items c =
    let items = c.args.items.now in
    let own = written_of_no_check items (one_byte_each_is_no_check items (sym c.requires.0 ∙ c.if-bytes-items.true)) in
    c.store.ensures ∙ ap (stored_at c.args.out.now 0) (sym own)

pub returns : goal.returns
unfolding written
returns c =
    let args = c.args in
    c.write_bytes.ensures.output
    ∙ ap (λ (check : Check). stored_at args.out.now 0 (written_from check args.items.now))
    c.fresh.ensures

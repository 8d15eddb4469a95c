-- `count::count_items` tallies all bytes of a list: where it writes no more bytes than it has numbers it has no check
-- order, and is its own bytes. Rests on no axiom.
use Prim.Native.Nat.{ℕ}
use mathlib.Core.Path.{◌≡◌, sym, ap, ◌∙◌}
use mathlib.Core.List.{List}
use lib.ListN.{length}
use Rattle.items.specs.Item.{written_bytes}
use Rattle.items.specs.Written.{written}
use Rattle.items.proofs.ItemLaws.{one_byte_each_is_no_check}
use Rattle.items.proofs.WrittenLaws.{written_of_no_check}
use Rattle.images.specs.machine.Tally.{no_tally, tallied}
use Rattle.images.proofs.TallyLaws.{tally_of_list_fits}
use Rattle.images.proofs.count.count_items.Goals as goal

own : (items : List ℕ) → written_bytes items ≡ length items → written items ≡ items
own items e = written_of_no_check items (one_byte_each_is_no_check items e)

pub count_bytes-requires : goal.count_bytes-requires
count_bytes-requires c =
    let items = c.args.items.now in
    rw (own items (sym c.requires.1 ∙ c.if-bytes-items.true)) at (tally_of_list_fits items c.requires.0)

pub returns-then-bytes-items : goal.returns-then-bytes-items
returns-then-bytes-items c =
    let items = c.args.items.now in
    c.count_bytes.ensures
    ∙ ap (tallied no_tally) (sym (own items (sym c.requires.1 ∙ c.if-bytes-items.true)))

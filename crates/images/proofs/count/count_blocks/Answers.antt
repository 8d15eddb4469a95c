-- `count::count_blocks` is a fold over blocks of items: the tally so far, and then the bytes of the items from a place
-- on, make the whole, wherever a block ends. Rests on no axiom.
use Prim.Native.Nat.{ℕ, ◌+◌, ◌-◌, ◌≤◌, ◌<◌, min}
use mathlib.Core.Path.{◌≡◌, refl, sym, ap, ap₂, ◌∙◌}
use mathlib.Core.List.{List}
use native.Mathlib.Omega.{arith}
use lib.ListN.{length, take, drop, length-take}
use lib.Seq.{length-take-le}
use Rattle.lists.specs.Filled.{stored_at}
use Rattle.lists.proofs.StoreLaws.{stored_length, front_of_stored}
use Rattle.items.specs.Item.{written_bytes}
use Rattle.items.specs.Rule.{list_rule}
use Rattle.items.specs.Written.{after_bytes, written_from, written}
use Rattle.items.specs.declared.Check.{Check}
use Rattle.items.proofs.ItemLaws.{written_bytes_bounds}
use Rattle.items.proofs.WrittenLaws.{length_of_written_from, written_from_piece, written_from_end}
use Rattle.images.specs.machine.Tally.{no_tally, tallied}
use Rattle.images.specs.declared.count.Tally.{Tally}
use Rattle.images.proofs.TallyLaws.{tallied-append, tallied_none, tally_at_least, tally_of_list_fits}
use Rattle.images.proofs.count.count_blocks.Invariants.{Counting}
use Rattle.images.proofs.count.count_blocks.Goals as goal

module _ {items : List ℕ} {tally : Tally} {check : Check} {bytes : List ℕ} {from : ℕ}
    (on : Counting items tally check bytes from) (size : ℕ) (few : size ≤ 64) where
  abbrev piece : List ℕ
  piece = take (from + size - from) (drop from items)

  abbrev block : List ℕ
  block = written_from check piece

  rest_makes_whole : tallied (tallied tally block) (written_from (after_bytes check block) (drop (from + size) items))
      ≡ tallied no_tally (written items)
  rest_makes_whole =
      sym (tallied-append tally block _)
      ∙ ap (tallied tally) (sym (written_from_piece check items from (from + size) (omega arith)))
      ∙ on.whole

  block_fits : (list_rule items).number ≡ 0 → (tallied tally block).cells < 65536
  block_fits accepted =
      let rest = written_from (after_bytes check block) (drop (from + size) items) in
      let least = tally_at_least (tallied tally block) rest in
      let same = ap (λ (t : Tally). t.cells) rest_makes_whole in
      omega (arith, tally_of_list_fits items accepted)

  module _ (count : ℕ) (counts : count ≡ written_bytes piece) where
    has_room : count ≤ 128
    has_room =
        let short : length piece ≤ 64 = rw (length-take (from + size - from) (drop from items)) (omega arith) in
        omega (arith, written_bytes_bounds piece)

    stored_has_room : (out : List ℕ) → out ≡ stored_at bytes 0 block → count ≤ length out
    stored_has_room out stores = rw (stores, stored_length bytes 0 block, on.room) has_room

    front : take count (stored_at bytes 0 block) ≡ block
    front =
        front_of_stored block bytes count (length_of_written_from check piece ∙ sym counts)
        (omega (arith, has_room, on.room))

-- the items that are taken together: some, and as many as there are and fit
taken : (from count size : ℕ) → from < count → size ≡ min 64 (count - from)
    → (0 < size) × (size ≤ 64) × (from + size ≤ count)
taken from count size more is_least = omega (arith, more, is_least)

pub loop-from-init : goal.loop-from-init
unfolding written
loop-from-init c =
    let items = c.args.items.now in
    record {
      within = omega arith;
      room = refl;
      whole = ap (λ (s : Check). tallied no_tally (written_from s items)) c.fresh-check.ensures;
    }

pub slice_bounds-bytes-end : goal.slice_bounds-bytes-end
slice_bounds-bytes-end c =
    let few = (taken _ _ _ c.loop-from-test.true c.min.ensures).1 in
    stored_has_room c.loop-from.invariant _ few _ c.write_bytes-stored.ensures.count _ c.write_bytes-stored.ensures.output

pub slice_bounds-count_bytes-end : goal.slice_bounds-count_bytes-end
slice_bounds-count_bytes-end c =
    let few = (taken _ _ _ c.loop-from-test.true c.min.ensures).1 in
    let stored = c.write_bytes-stored.ensures in
    sym (length-take-le _ _ (stored_has_room c.loop-from.invariant _ few _ stored.count _ stored.output))

pub count_bytes-tally-requires : goal.count_bytes-tally-requires
count_bytes-tally-requires c =
    let head = c.loop-from in
    let few = (taken _ _ _ c.loop-from-test.true c.min.ensures).1 in
    rw (c.write_bytes-stored.ensures.output, front head.invariant c.min.result few _ c.write_bytes-stored.ensures.count)
    (block_fits head.invariant c.min.result few c.requires)

pub loop-from-preserved : goal.loop-from-preserved
loop-from-preserved c =
    let head = c.loop-from in
    let few = (taken _ _ _ c.loop-from-test.true c.min.ensures).1 in
    let count : ℕ = c.write_bytes-stored.result.count in
    let bytes = front head.invariant c.min.result few count c.write_bytes-stored.ensures.count in
    let rest : List ℕ =
    drop (head.from + c.min.result) c.args.items.now in
    record {
      within = (taken _ _ _ c.loop-from-test.true c.min.ensures).2;
      room = ap length c.write_bytes-stored.ensures.output ∙ stored_length _ _ _ ∙ head.invariant.room;
      whole =
          ap₂ (λ (t : Tally) (s : Check). tallied t (written_from s rest))
          (c.count_bytes-tally.ensures ∙ ap (tallied head.tally) (ap (take count) c.write_bytes-stored.ensures.output ∙ bytes))
          c.write_bytes-stored.ensures.check
          ∙ rest_makes_whole head.invariant c.min.result few;
    }

pub returns : goal.returns
returns c =
    let head = c.loop-from in
    let items = c.args.items.now in
    let none = written_from_end head.check items head.from c.loop-from-test.false in
    rw (none, tallied_none head.tally) at head.invariant.whole

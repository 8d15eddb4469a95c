-- Why `data::store_bytes` stores the bytes that have room: after k turns it has stored the first k. Rests on no axiom.
use Prim.Native.Nat.{ℕ, ◌+◌, ◌<◌, min}
use mathlib.Core.Path.{◌≡◌, refl, sym, ◌∙◌}
use mathlib.Core.List.{List, map}
use native.Mathlib.Decide.{dec_lt}
use native.Mathlib.Nat.{add-zero}
use native.Mathlib.Numerals.{add-one}
use native.Mathlib.Omega.{arith}
use lib.ListN.{length, take, drop, get_or, length-take, length-set, length-map, drop_of_length-le}
use lib.Seq.{length-take-le}
use Rattle.std.proofs.lemmas.List.{get_or-take}
use Rattle.lists.proofs.StoreLaws.{stored_none, stored_past_end}
use Rattle.fields.specs.Bytes.{byte_of}
use Rattle.fields.proofs.BytesLaws.{byte_then_rest}
use Rattle.fields.proofs.data.store_bytes.Goals as goal

pub returns-then-out-at : goal.returns-then-out-at
returns-then-out-at c = sym (stored_past_end _ _ _ c.if-out-at.true)

-- what is looped over: as many of the items as there is room for
looped_over
    : (items : List ℕ) (room count k : ℕ)
    → count ≡ min room (length items)
    → k < length (take count items)
    → (k < room) × (k < length items) × (get_or (take count items) k 0 ≡ get_or items k 0)
looped_over items room count k few h =
    let short = length-take count items in
    (omega arith, omega arith, get_or-take count items k 0 (omega arith))

pub slice_bounds-item-items-end : goal.slice_bounds-item-items-end
slice_bounds-item-items-end c = sym (length-take-le _ _ (omega (arith, c.min-count.ensures)))

pub loop-k-init : goal.loop-k-init
loop-k-init c = (refl, rw add-zero)

pub overflow_add-out : goal.overflow_add-out
overflow_add-out c =
    let turn = looped_over _ _ _ _ c.min-count.ensures c.loop-k-test.true in
    record { fits = omega (arith, turn.0, c.well_formed) }

pub bounds-out-at : goal.bounds-out-at
bounds-out-at c =
    let turn = looped_over _ _ _ _ c.min-count.ensures c.loop-k-test.true in
    omega (arith, turn.0, c.loop-k.invariant.0)

pub loop-k-preserved : goal.loop-k-preserved
unfolding byte_of
loop-k-preserved c =
    let args = c.args in
    let (room, more, item) = looped_over _ _ _ _ c.min-count.ensures c.loop-k-test.true in (
      length-set {A = ℕ} c.loop-k.out _ _ ∙ c.loop-k.invariant.0,
      rw (item, add-one) (byte_then_rest c.loop-k.out args.items.now args.at c.loop-k.k more ∙ c.loop-k.invariant.1),
    )

pub returns : goal.returns
returns c =
    let args = c.args in
    let k = c.loop-k.k in
    let bytes : List ℕ = map byte_of args.items.now in
    let as_many = length-map args.items.now byte_of in
    let (same, rest) = c.loop-k.invariant in
    let few = c.min-count.ensures in
    let short = length-take c.min-count.result args.items.now in
    elim (dec_lt k (length args.items.now)) [
      | yes h ↦
          sym (stored_past_end _ (args.at + k) (drop k bytes) (omega (arith, few, short, same, c.loop-k-test.false)))
          ∙ rest
      | no h ↦ sym (stored_none _ _) ∙ rw (drop_of_length-le bytes {i = k} (omega arith)) at rest
    ]

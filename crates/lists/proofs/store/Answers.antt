-- Why `lists::store` stores the values that have room: what is left of them goes to the place reached, and in the end
-- there is none left or no room. Rests on no axiom.
use Prim.Native.Nat.{suc, ◌+◌, ◌≤◌, ◌<◌}
use mathlib.Core.Path.{sym, ap, ◌∙◌}
use native.Mathlib.Decide.{dec_lt}
use native.Mathlib.Numerals.{add-one}
use native.Mathlib.Omega.{arith}
use Rattle.std.proofs.lemmas.List.{get_or-take, length-take}
use lib.ListN.{length, drop, set, drop_of_length-le}
use Rattle.lists.specs.Filled.{stored_at}
use Rattle.lists.proofs.StoreLaws.{stored_none, stored_past_end, stored_rest}
use Rattle.lists.proofs.store.Goals as goal

pub returns-then-out-at : goal.returns-then-out-at
returns-then-out-at g c = sym (stored_past_end _ _ _ c.if-out-at.true)

pub loop-k-preserved : goal.loop-k-preserved
loop-k-preserved g c =
    let values = c.args.values.now in
    let count = c.min-count.result in
    let k = c.loop-k.k in
    let room = length-take count values in
    let below : k < count = omega (arith, room, c.loop-k-test.true) in
    let more : k < length values = omega (arith, room, c.loop-k-test.true) in
    let value = c.value-item.result in
    let here = c.value-item.is ∙ get_or-take count values k value below in
    rw add-one
    (ap (λ x. stored_at (set c.loop-k.out (c.args.at + k) x) (c.args.at + suc k) (drop (suc k) values)) here
    ∙ stored_rest _ values _ k value more ∙ c.loop-k.invariant)

pub returns : goal.returns
returns g c =
    let values = c.args.values.now in
    let at = c.args.at in
    let k = c.loop-k.k in
    let reached = length-take c.min-count.result values in
    elim (dec_lt k (length values)) [
      | yes h ↦
          let full : length c.loop-k.out ≤ at + k =
          omega (arith, c.min-count.ensures, reached, c.loop-k-test.false, c.loop-k.auto.out) in
          sym (stored_past_end _ (at + k) (drop k values) full) ∙ c.loop-k.invariant
      | no h ↦ sym (stored_none _ _) ∙ rw (drop_of_length-le values {i = k} (omega arith)) at c.loop-k.invariant
    ]

-- Why `fours::store` stores the words that have room: after k turns it has stored the first k. Rests on no axiom.
use Rattle.std.proofs.Common.{◌<◌, ℕ, ◌+◌, map, length, drop, sym, refl, ◌∙◌, add-zero, add-one, arith, length-set, drop_of_length-le}
use native.Mathlib.Decide.{dec_lt}
use lib.ListN.{length-map, get_or-map}
use Rattle.lists.proofs.StoreLaws.{stored_none, stored_past_end, stored_rest}
use Rattle.shifts.specs.machine.Fours.{alone}
use Rattle.shifts.proofs.fours.store.Goals as goal

pub returns-then-out-at : goal.returns-then-out-at
returns-then-out-at c = sym (stored_past_end _ _ _ c.if-out-at.true)

pub loop-k-init : goal.loop-k-init
loop-k-init c = (refl, rw add-zero)

pub overflow_add-out : goal.overflow_add-out
overflow_add-out c =
    let few = c.min-count.ensures in
    record { fits = omega (arith, few, c.loop-k-test.true, c.well_formed) }

pub bounds-out-at : goal.bounds-out-at
bounds-out-at c =
    let few = c.min-count.ensures in
    omega (arith, few, c.loop-k-test.true, c.loop-k.invariant.0)

pub loop-k-preserved : goal.loop-k-preserved
loop-k-preserved c =
    let args = c.args in
    let words = args.words.now in
    let k = c.loop-k.k in
    let more : k < length words = omega (arith, c.min-count.ensures, c.loop-k-test.true) in (
      length-set {A = ℕ} c.loop-k.out _ _ ∙ c.loop-k.invariant.0,
      rw (add-one k, ← get_or-map alone words k 0)
          (stored_rest c.loop-k.out (map alone words) args.at k 0 (rw length-map more) ∙ c.loop-k.invariant.1),
    )

pub shape_of-out : goal.shape_of-out
shape_of-out c = c.loop-k.invariant.0

pub returns : goal.returns
returns c =
    let args = c.args in
    let words = map alone args.words.now in
    let size = length-map args.words.now alone in
    let k = c.loop-k.k in
    let (same, rest) = c.loop-k.invariant in
    let few = c.min-count.ensures in
    elim (dec_lt k (length args.words.now)) [
      | yes h ↦
          sym (stored_past_end _ (args.at + k) (drop k words) (omega (arith, few, same, c.loop-k-test.false))) ∙ rest
      | no h ↦ sym (stored_none _ _) ∙ rw (drop_of_length-le words {i = k} (omega (arith, size))) at rest
    ]

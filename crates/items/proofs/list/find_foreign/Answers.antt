-- `find_foreign` scans for the lowest place: an item moves it on by one, the first number that is none ends it.
use Prim.Native.Nat.{ℕ}
use mathlib.Core.Path.{sym, ◌∙◌}
use mathlib.Core.List.{List}
use native.Mathlib.Omega.{arith}
use lib.ListN.{get_or}
use Rattle.lists.proofs.PlaceLaws.{lowest_from_passing_is_here, lowest_from_failing_is_further, lowest_from_end_is_here}
use Rattle.items.specs.Item.{is_foreign}
use Rattle.items.proofs.ItemLaws.{item_is_not_foreign}
use Rattle.items.proofs.list.find_foreign.Goals as goal

pub loop-k-preserved : goal.loop-k-preserved
loop-k-preserved c =
    let head = c.loop-k in
    let items : List ℕ = c.args.items.now in
    let item = item_is_not_foreign (get_or items head.k 0) (sym c.is_item.ensures ∙ c.if-not-is_item.false) in
    sym (lowest_from_failing_is_further is_foreign items 0 head.k c.loop-k-test.true item) ∙ head.invariant

pub returns-then-not-is_item : goal.returns-then-not-is_item
unfolding is_foreign
returns-then-not-is_item c =
    let head = c.loop-k in
    let items = c.args.items.now in
    let item = sym c.is_item.ensures ∙ c.if-not-is_item.true in
    sym (lowest_from_passing_is_here is_foreign items 0 head.k c.loop-k-test.true (rw item)) ∙ head.invariant

pub returns : goal.returns
returns c =
    let items : List ℕ = c.args.items.now in
    let head = c.loop-k in
    omega (arith, lowest_from_end_is_here is_foreign items head.k c.loop-k-test.false, head.invariant, head.auto.k-end)

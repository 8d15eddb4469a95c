-- `find_check` scans for the lowest place, from the end of the eights below a check order on: any other number
-- moves it on by one, the first check order ends it.
use Prim.Native.Nat.{ℕ, ◌+◌, ◌-◌}
use mathlib.Core.Path.{◌≡◌, sym, ap, ◌∙◌}
use mathlib.Core.List.{List}
use native.Mathlib.Omega.{arith}
use lib.ListN.{length, take, drop, length-drop}
use Rattle.lists.specs.Place.{lowest}
use Rattle.lists.proofs.PlaceLaws.{lowest_from_passing_is_here, lowest_from_failing_is_further, lowest_from_end_is_here}
use Rattle.items.specs.Item.{is_check}
use Rattle.items.proofs.RunLaws.{rest_of}
use Rattle.items.proofs.list.find_check.Goals as goal

abbrev rest_at : List ℕ → ℕ → List ℕ
rest_at items start = take (length items - start) (drop start items)

-- a place in the rest, among all
among_all : (items : List ℕ) (start k : ℕ)
    → start + lowest is_check (drop start items) ≡ lowest is_check items
    → k ≡ lowest is_check (rest_at items start)
    → start + k ≡ lowest is_check items
among_all items start k e h = rw h (ap (λ (l : List ℕ). start + lowest is_check l) (rest_of items start) ∙ e)

pub returns-then-is_check : goal.returns-then-is_check
returns-then-is_check c =
    let head = c.loop-k in
    let items : List ℕ = c.args.items.now in
    let start = c.pass_eights-start.result in
    let check = sym c.is_check.ensures ∙ c.if-is_check.true in
    let here = lowest_from_passing_is_here is_check (rest_at items start) 0 head.k c.loop-k-test.true check in
    among_all items start head.k c.pass_eights-start.ensures.lowest (sym here ∙ head.invariant)

pub loop-k-preserved : goal.loop-k-preserved
loop-k-preserved c =
    let head = c.loop-k in
    let rest = rest_at c.args.items.now c.pass_eights-start.result in
    let other = sym c.is_check.ensures ∙ c.if-is_check.false in
    sym (lowest_from_failing_is_further is_check rest 0 head.k c.loop-k-test.true other) ∙ head.invariant

pub returns : goal.returns
returns c =
    let head = c.loop-k in
    let items : List ℕ = c.args.items.now in
    let start = c.pass_eights-start.result in
    let here = lowest_from_end_is_here is_check (rest_at items start) head.k c.loop-k-test.false in
    let end : start + head.k ≡ length items =
    omega (
      arith,
      c.pass_eights-start.ensures.within,
      head.auto.k-end,
      c.loop-k-test.false,
      ap length (rest_of items start),
      length-drop start items,
    ) in
    sym end ∙ among_all items start head.k c.pass_eights-start.ensures.lowest (sym here ∙ head.invariant)

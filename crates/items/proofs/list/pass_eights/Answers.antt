-- Why `list::pass_eights` passes over no check order: of eight numbers that have none of the bits from 512 on, none is
-- 512. Rests on no axiom.
use Prim.Native.Nat.{ℕ, ◌+◌, ◌^◌, ◌≤◌, ◌<◌}
use mathlib.Core.Path.{◌≡◌, sym, ◌∙◌}
use mathlib.Core.Bool.{false}
use mathlib.Core.List.{List}
use native.Mathlib.Omega.{arith}
use lib.ListN.{length, get_or}
use Rattle.items.specs.Item.{is_check}
use Rattle.items.proofs.ItemLaws.{below_512_is_no_check, check_is_further}
use Rattle.items.proofs.LaneLaws.{bits_of_512, eight_below}
use Rattle.items.proofs.list.pass_eights.Goals as goal

pub loop-k-preserved : goal.loop-k-preserved
loop-k-preserved c =
    let known = c.type_inv.items in
    let items : List ℕ = c.args.items.now in
    let k : ℕ = c.loop-k.k in
    let inside : k + 8 ≤ length items = omega (arith, c.loop-k-test.true) in
    let fit : (i : ℕ) → get_or items i 0 < 2 ^ 16 = λ i. omega (arith, known i) in
    let small = eight_below 0xfe00 512 bits_of_512 items k fit (sym c.clear_at.ensures ∙ c.if-clear_at.true) in
    let none : (i : ℕ) → i < 8 → is_check (get_or items (k + i) 0) ≡ false =
    λ i h. below_512_is_no_check (get_or items (k + i) 0) (small i h) in
    (inside, check_is_further items 8 k inside none ∙ c.loop-k.invariant.1)

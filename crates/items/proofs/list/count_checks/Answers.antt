-- Why `list::count_checks` answers how many bytes more than numbers are written: each check order writes one more. What
-- is counted and what the numbers from a place on write are the whole. Rests on no axiom.
use Prim.Native.Nat.{ℕ, ◌+◌}
use mathlib.Core.Path.{◌≡◌, refl}
use mathlib.Core.Bool.{true, false, cond}
use mathlib.Core.List.{List}
use native.Mathlib.Omega.{arith}
use lib.ListN.{get_or}
use mir.Val.{bool_byte}
use Rattle.lists.proofs.BoolLaws.{one_at_most}
use Rattle.items.specs.Item.{is_check, bytes_of}
use Rattle.items.proofs.ItemLaws.{written_bytes_from, written_bytes_from_end}
use Rattle.items.proofs.list.count_checks.Goals as goal

one_more : (n : ℕ) → bytes_of n ≡ 1 + bool_byte (is_check n)
unfolding bytes_of
one_more n = elim (is_check n) as (λ t. cond t 2 1 ≡ 1 + bool_byte t) [ true ↦ refl | false ↦ refl ]

pub loop-item-preserved : goal.loop-item-preserved
loop-item-preserved c =
    let items : List ℕ = c.args.items.now in
    let k = c.loop-item.item-index in
    let small = one_at_most (is_check (get_or items k 0)) in
    let more = one_more (get_or items k 0) in
    rw c.is_check.ensures
    (omega (arith, c.loop-item.invariant, written_bytes_from items k c.loop-item-test.true))

pub returns : goal.returns
returns c =
    let items : List ℕ = c.args.items.now in
    let head = c.loop-item in
    let end = written_bytes_from_end items head.item-index c.loop-item-test.false in
    omega (arith, end, head.invariant.1, head.auto.item-index-end, c.loop-item-test.false)

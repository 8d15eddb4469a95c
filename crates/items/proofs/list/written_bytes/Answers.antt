-- `written_bytes` adds up the definition's sum: what is counted and what the items from k on count for are the whole.
use Prim.Native.Nat.{ℕ, ◌+◌, ◌-◌, ◌≤◌}
use mathlib.Core.Path.{◌≡◌}
use mathlib.Core.List.{List}
use native.Mathlib.Omega.{arith}
use lib.ListN.{length, take, drop, length-drop}
use lib.Seq.{length-take-le}
use Rattle.items.specs.Item.{written_bytes}
use Rattle.items.proofs.ItemLaws.{written_bytes_bounds, written_bytes_of_part}
use Rattle.items.proofs.RunLaws.{rest_of}
use Rattle.items.proofs.list.written_bytes.Goals as goal

-- so many numbers more
a_part_more : (items : List ℕ) (k n checks : ℕ) → k + n ≤ length items
    → length (take (k + n - k) (drop k items)) + checks ≡ written_bytes (take (k + n - k) (drop k items))
    → n + checks + written_bytes (drop (k + n) items) ≡ written_bytes (drop k items)
a_part_more items k n checks h e =
    let size : k + n - k ≡ n = omega arith in
    let part = rw size at e in
    omega (
      arith,
      part,
      length-take-le n (drop k items) (omega (arith, length-drop k items)),
      written_bytes_of_part items k n,
    )

pub overflow_add-count-in-loop-k : goal.overflow_add-count-in-loop-k
overflow_add-count-in-loop-k c =
    let items : List ℕ = c.args.items.now in
    let more = a_part_more items c.loop-k.k 32768 _ (omega (arith, c.loop-k-test.true)) c.count_checks.ensures in
    omega (arith, more, c.loop-k.invariant.1, written_bytes_bounds items)

pub loop-k-preserved : goal.loop-k-preserved
loop-k-preserved c =
    let items : List ℕ = c.args.items.now in
    let inside : c.loop-k.k + 32768 ≤ length items = omega (arith, c.loop-k-test.true) in
    let more = a_part_more items c.loop-k.k 32768 _ inside c.count_checks.ensures in
    (inside, omega (arith, more, c.loop-k.invariant.1))

pub overflow_add-result : goal.overflow_add-result
overflow_add-result c =
    let items : List ℕ = c.args.items.now in
    rw (rest_of items c.loop-k.k)
    (omega (
      arith,
      c.loop-k.invariant.1,
      written_bytes_bounds (drop c.loop-k.k items),
      written_bytes_bounds items,
    ))

pub overflow_add-result-2 : goal.overflow_add-result-2
overflow_add-result-2 c =
    let items : List ℕ = c.args.items.now in
    let rest = rw (rest_of items c.loop-k.k) at c.count_checks-2.ensures in
    rw (rest_of items c.loop-k.k)
    (omega (arith, rest, c.loop-k.invariant.1, written_bytes_bounds items))

-- `lanes::four_at` sets four numbers of 16 bits side by side. Rests on no axiom.
use Prim.Native.Nat.{ℕ, ◌+◌, ◌^◌, ◌<◌}
use native.Mathlib.Omega.{arith}
use lib.ListN.{get_or}
use Rattle.items.specs.machine.Lanes.{four_at}
use Rattle.items.proofs.LaneLaws.{or_is_lanes}
use Rattle.items.proofs.lanes.four_at.Goals as goal

pub returns : goal.returns
unfolding four_at
returns c =
    let args = c.args in
    let fit : (i : ℕ) → get_or args.numbers.now i 0 < 2 ^ 16 = λ i. omega (arith, c.type_inv.numbers i) in
    or_is_lanes _ _ _ _ (fit args.k) (fit (args.k + 1)) (fit (args.k + 2)) (fit (args.k + 3))

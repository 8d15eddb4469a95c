-- `lanes::joined_four` moves the bytes of four lanes together. Rests on no axiom.
use Prim.Native.Nat.{ℕ, ◌+◌}
use mathlib.Core.Path.{◌≡◌, ap, ◌∙◌}
use native.Mathlib.Nat.{add-zero}
use native.Mathlib.Omega.{arith}
use lib.ListN.{get_or}
use Rattle.items.specs.machine.Lanes.{four_at, joined_at}
use Rattle.items.proofs.LaneLaws.{pairs_are_joined}
use Rattle.items.proofs.lanes.joined_four.Goals as goal

pub returns : goal.returns
unfolding four_at joined_at
returns c =
    let bytes = c.args.bytes.now in
    let k : ℕ = c.args.k in
    let small = c.requires.by_index in
    let first : get_or bytes (k + 0) 0 ≡ get_or bytes k 0 = ap (λ (i : ℕ). get_or bytes i 0) (add-zero k) in
    rw c.four_at-lanes.ensures (pairs_are_joined _ _ _ _ (rw first at (small 0 (omega arith))) (small 1 (omega arith))
    (small 2 (omega arith)) (small 3 (omega arith))
    ∙ omega (arith, first))

-- `lanes::joined_eight` sets two numbers of four bytes side by side. Rests on no axiom.
use Prim.Native.Nat.{ℕ, ◌+◌, ◌*◌, ◌%◌, ◌^◌, ◌<◌}
use mathlib.Core.Path.{◌≡◌, sym, ◌∙◌}
use mathlib.Core.List.{List}
use native.Mathlib.Nat.{mod-eq_of_lt}
use native.Mathlib.Omega.{arith}
use lib.Bits.{or_shifted}
use lib.ListN.{get_or}
use Rattle.items.specs.machine.Lanes.{joined_at}
use Rattle.items.proofs.LaneLaws.{joined_is_small, joined_of_halves}
use Rattle.items.proofs.lanes.joined_eight.Goals as goal

-- the last four
small_behind : (l : List ℕ) (k : ℕ) → ((i : ℕ) → i < 8 → get_or l (k + i) 0 < 256) → (i : ℕ) → i < 4
    → get_or l (k + 4 + i) 0 < 256
small_behind l k small i h = let place : k + 4 + i ≡ k + (4 + i) = omega arith in rw place (small (4 + i) (omega arith))

pub returns : goal.returns
returns c =
    let bytes : List ℕ = c.args.bytes.now in
    let k : ℕ = c.args.k in
    let first : ℕ = joined_at 4 bytes k in
    let last : ℕ = joined_at 4 bytes (k + 4) in
    let above : first < 2 ^ 32 = joined_is_small bytes k (λ i h. c.requires.by_index i (omega arith)) in
    let below : last < 2 ^ 32 = joined_is_small bytes (k + 4) (small_behind bytes k c.requires.by_index) in
    let whole : first * 2 ^ 32 % 2 ^ 64 ≡ first * 2 ^ 32 = mod-eq_of_lt (omega arith) in
    rw (c.joined_four.ensures, c.joined_four-2.ensures, whole)
    (or_shifted first 32 last below ∙ sym (joined_of_halves bytes k))

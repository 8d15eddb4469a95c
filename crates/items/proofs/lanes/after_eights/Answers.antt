-- `lanes::after_eights` keeps what the bytes from k on make of the state: eight numbers below 256 pass through as the
-- data bytes that they are. Rests on no axiom.
use Prim.Native.Nat.{ℕ, ◌+◌, ◌^◌, ◌≤◌, ◌<◌}
use mathlib.Core.Path.{◌≡◌, sym, ap, ◌∙◌}
use mathlib.Core.Bool.{true}
use mathlib.Core.List.{List}
use native.Mathlib.Omega.{arith}
use lib.ListN.{length, get_or, drop}
use Rattle.register.specs.machine.Bytes.{fed_bytes}
use mir.Syntax.{w16}
use mir.Val.{Fits}
use Rattle.items.specs.Written.{after_bytes}
use Rattle.items.specs.machine.Lanes.{clear_at}
use Rattle.items.proofs.CheckLaws.{unmarked, after_joined_from}
use Rattle.items.proofs.LaneLaws.{bits_of_256, eight_below}
use Rattle.items.proofs.lanes.after_eights.Goals as goal

-- the eight bytes of a turn
turn_is_data
    : (bytes : List ℕ) (k : ℕ)
    → ((i : ℕ) → Fits w16 (get_or bytes i 0))
    → clear_at bytes k 0xff00ff00ff00ff00 ≡ true
    → (i : ℕ)
    → i < 8
    → get_or bytes (k + i) 0 < 256
turn_is_data bytes k known clear =
    let fit : (i : ℕ) → get_or bytes i 0 < 2 ^ 16 = λ i. omega (arith, known i) in
    eight_below 0xff00 256 bits_of_256 bytes k fit clear

pub joined_eight-requires : goal.joined_eight-requires
joined_eight-requires c =
    record {
      k_in_bounds = omega (arith, c.loop-k-test.true);
      by_index = turn_is_data _ _ c.type_inv.bytes (sym c.clear_at.ensures ∙ c.if-clear_at.true);
    }

pub loop-k-preserved : goal.loop-k-preserved
loop-k-preserved c =
    let head = c.loop-k in
    let bytes : List ℕ = c.args.bytes.now in
    let inside : head.k + 8 ≤ length bytes = omega (arith, c.loop-k-test.true) in
    let small = turn_is_data bytes head.k c.type_inv.bytes (sym c.clear_at.ensures ∙ c.if-clear_at.true) in (
      omega (arith, head.invariant.0),
      inside,
      ap (λ (r : ℕ). after_bytes (unmarked r) (drop (head.k + 8) bytes)) (c.feed_eight.ensures
          ∙ ap (fed_bytes 8 head.check.register) c.joined_eight.ensures)
          ∙ sym (after_joined_from head.check bytes 7 head.k inside small) ∙ head.invariant.2,
    )

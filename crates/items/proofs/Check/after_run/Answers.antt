-- `Check::after_run` keeps what the bytes from k on make of the state: eights do, and two numbers below 256 pass
-- through as the data bytes that they are. Rests on no axiom.
use Prim.Native.Nat.{ℕ, ◌+◌, ◌≤◌, ◌<◌}
use mathlib.Core.Path.{◌≡◌, sym, ap, ◌∙◌}
use mathlib.Core.List.{List}
use native.Mathlib.Omega.{arith}
use lib.Bits.{bit_or, or_add_and, and_le_l, and_le_r}
use lib.ListN.{length, get_or, drop}
use Rattle.items.specs.Written.{after_byte, after_bytes}
use Rattle.items.specs.declared.Check.{Check}
use Rattle.items.proofs.CheckLaws.{unmarked, after_bytes_from, after_two_data_from}
use Rattle.items.proofs.Check.after_run.Goals as goal

both_small : (a b : ℕ) → bit_or a b ≤ 255 → (a < 256) × (b < 256)
both_small a b h = (omega (arith, or_add_and a b, and_le_r a b), omega (arith, or_add_and a b, and_le_l a b))

-- what the loop keeps, from the function's start on
kept_from_start
    : (start first eights last : Check) (bytes : List ℕ) (from j k : ℕ)
    → from < length bytes
    → first ≡ after_byte start (get_or bytes from 0)
    → after_bytes eights (drop j bytes) ≡ after_bytes first (drop (from + 1) bytes)
    → after_bytes last (drop k bytes) ≡ after_bytes eights (drop j bytes)
    → after_bytes last (drop k bytes) ≡ after_bytes start (drop from bytes)
kept_from_start start first eights last bytes from j k inside byte passed kept =
    kept
    ∙ passed
    ∙ ap (λ (s : Check). after_bytes s (drop (from + 1) bytes)) byte
    ∙ sym (after_bytes_from start bytes from inside)

pub returns-then-high-low-gt255 : goal.returns-then-high-low-gt255
returns-then-high-low-gt255 c =
    record {
      place = (c.loop-k.invariant.0, c.loop-k.invariant.1);
      state =
          kept_from_start c.args.self _ c.after_eights-eights.result.check c.loop-k.check c.args.bytes.now c.args.from
          c.after_eights-eights.result.count c.loop-k.k c.requires c.after_byte-first.ensures
          c.after_eights-eights.ensures.state c.loop-k.invariant.2;
    }

pub feed_two-requires : goal.feed_two-requires
feed_two-requires c = both_small _ _ (omega (arith, c.if-high-low-gt255.false))

pub loop-k-preserved : goal.loop-k-preserved
loop-k-preserved c =
    let head = c.loop-k in
    let bytes : List ℕ = c.args.bytes.now in
    let inside : head.k + 1 < length bytes = let test = c.loop-k-test.true in omega arith in
    let small =
    both_small (get_or bytes head.k 0) (get_or bytes (head.k + 1) 0) (omega (arith, c.if-high-low-gt255.false)) in (
      omega (arith, head.invariant.0),
      omega (arith, inside),
      ap (λ (r : ℕ). after_bytes (unmarked r) (drop (head.k + 2) bytes)) c.feed_two.ensures
          ∙ sym (after_two_data_from head.check bytes head.k inside small.0 small.1) ∙ head.invariant.2,
    )

pub returns : goal.returns
returns c =
    record {
      place = (c.loop-k.invariant.0, c.loop-k.invariant.1);
      state =
          kept_from_start c.args.self _ c.after_eights-eights.result.check c.loop-k.check c.args.bytes.now c.args.from
          c.after_eights-eights.result.count c.loop-k.k c.requires c.after_byte-first.ensures
          c.after_eights-eights.ensures.state c.loop-k.invariant.2;
    }

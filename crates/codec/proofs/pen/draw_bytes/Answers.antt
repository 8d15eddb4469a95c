-- Why `codec::pen::draw_bytes` draws all bytes: each turn draws one more, and the rest makes the whole. Rests on no
-- axiom.
use Prim.Native.Nat.{ℕ, ◌+◌, ◌≤◌, ◌<◌}
use mathlib.Core.Path.{◌≡◌, sym, ap, ◌∙◌}
use mathlib.Core.List.{List}
use native.Mathlib.Omega.{arith}
use lib.ListN.{length, get_or, drop, drop_of_length-le}
use Rattle.codec.specs.machine.Pen.{Writing, wrote_byte, wrote}
use Rattle.codec.proofs.PenLaws.{bytes_move_on, bytes_length, wrote_none, wrote_from}
use Rattle.codec.proofs.pen.draw_bytes.Invariants.{Whole}
use Rattle.codec.proofs.pen.draw_bytes.Goals as goal

module _ {table bytes : List ℕ} {s₀ s : Writing} {k : ℕ} (whole : Whole table bytes s₀ s k) where
  same_length : length s.out ≡ length s₀.out
  same_length =
      sym (bytes_length table s (drop k bytes))
      ∙ ap (λ (x : Writing). length x.out) whole.same
      ∙ bytes_length table s₀ bytes

  at_end : length bytes ≤ k → s ≡ wrote table s₀ bytes
  at_end h = cc (wrote_none table s, drop_of_length-le bytes {i = k} h, whole.same)

  module _ (h : k < length bytes) where
    abbrev next : Writing
    next = wrote_byte table s (get_or bytes k 0)

    a_byte_more : Whole table bytes s₀ next (k + 1)
    a_byte_more = record { same = sym (wrote_from table s bytes k h) ∙ whole.same }

    fits : (wrote table s₀ bytes).pen.cells < length s₀.out → next.pen.cells < length s.out
    fits f =
        let on = bytes_move_on table next (drop (k + 1) bytes) in
        let same : (wrote table next (drop (k + 1) bytes)).pen.cells ≡ (wrote table s₀ bytes).pen.cells =
        ap (λ (x : Writing). x.pen.cells) a_byte_more.same in
        omega (arith, same_length)

pub draw_byte-pen-requires : goal.draw_byte-pen-requires
draw_byte-pen-requires c = fits c.loop-byte.invariant c.loop-byte-test.true c.requires

pub loop-byte-preserved : goal.loop-byte-preserved
loop-byte-preserved c =
    rw c.draw_byte-pen.ensures (a_byte_more c.loop-byte.invariant c.loop-byte-test.true)

pub returns : goal.returns
returns c = at_end c.loop-byte.invariant c.loop-byte-test.false

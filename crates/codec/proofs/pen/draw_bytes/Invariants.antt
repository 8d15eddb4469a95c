use Prim.Native.Nat.{ℕ}
use mathlib.Core.Path.{◌≡◌}
use mathlib.Core.List.{List}
use lib.ListN.{drop}
use Rattle.codec.specs.machine.Pen.{Writing, writing, wrote}
use Rattle.codec.proofs.pen.draw_bytes.Given as goal

pub record Whole (table bytes : List ℕ) (s₀ s : Writing) (k : ℕ) : Type 0 where
  pub same : wrote table s (drop k bytes) ≡ wrote table s₀ bytes

abbrev pub invariant-loop-byte : goal.invariant-loop-byte
invariant-loop-byte l =
    Whole l.table l.bytes (writing l.initial.pen l.initial.out) (writing l.pen l.out) l.byte-index

-- A block of corrected numbers is the block corrected, where it begins at an even place: there the first sum has its
-- turn again. Rests on no axiom.
use Prim.Native.Nat.{ℕ, ◌+◌, ◌-◌, ◌*◌, ◌/◌, ◌%◌, min}
use mathlib.Core.Path.{◌≡◌, sym, ap, ◌∙◌}
use mathlib.Core.List.{List}
use native.Mathlib.Omega.{arith}
use lib.ListN.{length, take, drop, length-take, length-drop}
use Rattle.passes.proofs.BlockLaws.{take_taken}
use Rattle.pace.specs.machine.Cut.{cut_from}
use Rattle.pace.proofs.CutLaws.{cut-take, cut-drop}

-- a block of a list from an even place on is corrected as the list is
pub block_is_cut
    : (full own other : ℕ) (ds : List ℕ) (from count : ℕ)
    → from % 2 ≡ 0
    → count ≡ min 64 (length ds - from)
    → cut_from full own other (take (from + count - from) (drop from ds))
    ≡ take 64 (drop from (cut_from full own other ds))
block_is_cut full own other ds from count even is =
    let pairs : 2 * (from / 2) ≡ from = omega (arith, even) in
    let same : from + count - from ≡ length (take 64 (drop from ds)) =
    omega (arith, is, length-take 64 (drop from ds), length-drop from ds) in
    ap (λ (k : ℕ). cut_from full own other (take k (drop from ds))) same
    ∙ ap (cut_from full own other) (take_taken 64 (drop from ds))
    ∙ sym (cut-take full own other 64 (drop from ds))
    ∙ ap (take 64) (ap (λ (k : ℕ). cut_from full own other (drop k ds)) (sym pairs)
    ∙ sym (cut-drop full own other (from / 2) ds)
    ∙ ap (λ (k : ℕ). drop k (cut_from full own other ds)) pairs)

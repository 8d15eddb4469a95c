-- Why each length of a stream is one that its cell can have after the cell before: a transition between two
-- cells has one of four compare points, so a cell has one of two lengths after each kind, by the kind behind it. Rests on
-- no axiom.
use Prim.Native.Nat.{ℕ, zero, suc, ◌+◌, ◌-◌, ◌*◌, ◌≤◌, ◌<◌}
use mathlib.Core.Bool.{Bool, true, false}
use mathlib.Core.List.{List, [], ◌∷◌}
use native.Mathlib.Omega.{arith}
use lib.Dec.{eqb}
use lib.ListN.{length, get_or}
use Rattle.timing.specs.Profile.{swing, advance, delay}
use Rattle.timing.specs.declared.Profile.{Profile}
use Rattle.timing.proofs.ProfileLaws.{Kept}
use Rattle.symbols.specs.Cells.{written_cells}
use Rattle.lengths.specs.Lengths.{point, cell_length}
use Rattle.lengths.specs.Neighbours.{between, next_cell, lengths_between}
use Rattle.lengths.specs.Stream.{byte_stream}
use Rattle.lengths.proofs.RunLaws.{ShortCells, written_cells_are_short}
use Rattle.lengths.proofs.NeighbourLaws.{lengths_by_neighbours}

-- the length l is one that a cell of so many units can have after one of class 2, or after another
pub data CellLength (p : Profile) (l : ℕ) : Bool → ℕ → Type 0 where
  two_short : p.t1.0 ≤ l + advance p → l ≤ p.t1.0 → CellLength p l true 2
  two_long : p.t1.0 ≤ l + swing p → l + delay p ≤ p.t1.0 → CellLength p l false 2
  three_short : p.t1.0 + p.t0.0 + advance p ≤ l → l ≤ p.t1.0 + p.t0.0 + swing p → CellLength p l true 3
  three_long : p.t1.0 + p.t0.0 ≤ l → l ≤ p.t1.0 + p.t0.0 + delay p → CellLength p l false 3
  four_short : p.t1.0 + 2 * p.t0.0 + advance p ≤ l → l ≤ p.t1.0 + 2 * p.t0.0 + swing p → CellLength p l true 4
  four_long : p.t1.0 + 2 * p.t0.0 ≤ l → l ≤ p.t1.0 + 2 * p.t0.0 + delay p → CellLength p l false 4

-- each length has the units beside it, after a cell
unfoldable pub CellLengths : Profile → Bool → List ℕ → List ℕ → Type 0
CellLengths p two [] [] = Unit
CellLengths p two [] (l ∷ ls) = ⊥
CellLengths p two (u ∷ us) [] = ⊥
CellLengths p two (u ∷ us) (l ∷ ls) = CellLength p l two u × CellLengths p (eqb u 2) us ls

module _ {p : Profile} (k : Kept p) where
  -- the twelve lengths that there are
  cell_has_length
      : (before after : Bool) (cell : ℕ)
      → 2 ≤ cell
      → cell ≤ 4
      → CellLength p (cell_length p (cell - 2) (point p before (eqb cell 2)) (point p (eqb cell 2) after)) before cell
  unfolding point cell_length
  cell_has_length before after zero low high = absurd (omega arith)
  cell_has_length before after (suc zero) low high = absurd (omega arith)
  cell_has_length true true (suc (suc zero)) low high = two_short (omega arith) (omega arith)
  cell_has_length true false (suc (suc zero)) low high = two_short (omega arith) (omega arith)
  cell_has_length false true (suc (suc zero)) low high = two_long (omega arith) (omega arith)
  cell_has_length false false (suc (suc zero)) low high = two_long (omega arith) (omega arith)
  cell_has_length true true (suc (suc (suc zero))) low high = three_short (omega arith) (omega arith)
  cell_has_length true false (suc (suc (suc zero))) low high = three_short (omega arith) (omega arith)
  cell_has_length false true (suc (suc (suc zero))) low high = three_long (omega arith) (omega arith)
  cell_has_length false false (suc (suc (suc zero))) low high = three_long (omega arith) (omega arith)
  cell_has_length true true (suc (suc (suc (suc zero)))) low high = four_short (omega arith) (omega arith)
  cell_has_length true false (suc (suc (suc (suc zero)))) low high = four_short (omega arith) (omega arith)
  cell_has_length false true (suc (suc (suc (suc zero)))) low high = four_long (omega arith) (omega arith)
  cell_has_length false false (suc (suc (suc (suc zero)))) low high = four_long (omega arith) (omega arith)
  cell_has_length before after (suc (suc (suc (suc (suc n))))) low high = absurd (omega arith)

  lengths_have_cells
      : (us : List ℕ) (before : ℕ) → ShortCells us → CellLengths p (eqb before 2) us (lengths_between p before us)
  unfolding CellLengths ShortCells lengths_between between
  lengths_have_cells [] before short = tt
  lengths_have_cells (u ∷ us) before (low, high, rest) =
      (cell_has_length (eqb before 2) (eqb (next_cell us) 2) u low high, lengths_have_cells us u rest)

  pub stream_has_cells : (ws : List ℕ) → CellLengths p true (written_cells ws) (byte_stream p ws)
  stream_has_cells ws =
      rw (lengths_by_neighbours p ws) (lengths_have_cells (written_cells ws) 2 (written_cells_are_short ws))

pub cell_length_at
    : {p : Profile} (before : ℕ) (us ls : List ℕ)
    → CellLengths p (eqb before 2) us ls
    → (k : ℕ)
    → k < length ls
    → CellLength p (get_or ls k 0) (eqb (get_or (before ∷ us) k 2) 2) (get_or us k 0)
unfolding CellLengths
cell_length_at before [] [] w k h = absurd (omega arith)
cell_length_at before [] (l ∷ ls) w k h = absurd w
cell_length_at before (u ∷ us) [] w k h = absurd w
cell_length_at before (u ∷ us) (l ∷ ls) w zero h = w.0
cell_length_at before (u ∷ us) (l ∷ ls) w (suc k) h = cell_length_at u us ls w.1 k (omega arith)

cell_length_fits : {p : Profile} → Kept p → {l u : ℕ} {two : Bool} → CellLength p l two u → l < 65536
cell_length_fits k (two_short low high) = omega arith
cell_length_fits k (two_long low high) = omega arith
cell_length_fits k (three_short low high) = omega arith
cell_length_fits k (three_long low high) = omega arith
cell_length_fits k (four_short low high) = omega arith
cell_length_fits k (four_long low high) = omega arith

pub length_fits
    : {p : Profile} → Kept p → (ws : List ℕ) (i : ℕ) → i < length (byte_stream p ws) → get_or (byte_stream p ws) i 0 < 65536
length_fits k ws i h = cell_length_fits k (cell_length_at 2 (written_cells ws) _ (stream_has_cells k ws) i h)

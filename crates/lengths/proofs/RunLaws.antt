-- Why every cell of written bytes has 2, 3 or 4 units: after a bit 1 no 0 symbol is open, after a bit 0 at most one,
-- and each bit of a byte keeps that; a mark's gap follows a transition and is followed by one.
use Prim.Native.Nat.{ℕ, suc, ◌≤◌}
use native.Mathlib.Omega.{arith}
use mathlib.Core.Bool.{Bool, true, false, cond}
use mathlib.Core.List.{List, [], ◌∷◌}
use Rattle.symbols.specs.Bits.{Bit, O, G, bits_of}
use Rattle.symbols.specs.Cells.{pair_symbols, symbols_from, symbols_of, cells_from, cells_of, written_symbols, written_cells}
use Rattle.lengths.proofs.LetterLaws.{letter, every_list_has_it}

-- no cell that ends in the symbols has more than two 0s, the open one having its zeros already
unfoldable pub ShortRuns : ℕ → List Bool → Type 0
ShortRuns zeros [] = Unit
ShortRuns zeros (false ∷ ss) = ShortRuns (suc zeros) ss
ShortRuns zeros (true ∷ ss) = (zeros ≤ 2) × ShortRuns 0 ss

-- what follows a bit has short runs, whatever may be open there: nothing after a 1, at most one 0 after a 0
Short : Bool → List Bit → Type 0
Short t bs = (zeros : ℕ) → zeros ≤ cond t 0 1 → ShortRuns zeros (symbols_from (letter t) bs)

data_bit_keeps_runs_short : (t : Bool) (bs : List Bit) → Short t bs → (u : Bool) → Short u (letter t ∷ bs)
unfolding Short ShortRuns symbols_from pair_symbols
data_bit_keeps_runs_short true bs h true zeros o = (omega arith, h 0 (omega arith))
data_bit_keeps_runs_short true bs h false zeros o = (omega arith, h 0 (omega arith))
data_bit_keeps_runs_short false bs h true zeros o = h (suc zeros) (omega arith)
data_bit_keeps_runs_short false bs h false zeros o = (omega arith, h 0 (omega arith))

mark_gap_keeps_runs_short : (bs : List Bit) → Short false bs → Short true (O ∷ G ∷ O ∷ O ∷ bs)
unfolding Short ShortRuns symbols_from pair_symbols
mark_gap_keeps_runs_short bs h zeros o = (omega arith, (omega arith, h 0 (omega arith)))

closing_zeros_are_short : (t : Bool) → Short t (O ∷ O ∷ [])
unfolding Short ShortRuns symbols_from pair_symbols
closing_zeros_are_short true zeros o = (omega arith, tt)
closing_zeros_are_short false zeros o = (omega arith, (omega arith, tt))

pub written_runs_are_short : (ws : List ℕ) → ShortRuns 0 (written_symbols ws)
unfolding Short written_symbols symbols_of bits_of
written_runs_are_short ws =
    every_list_has_it Short data_bit_keeps_runs_short mark_gap_keeps_runs_short (O ∷ O ∷ []) closing_zeros_are_short ws
    false 0 (omega arith)

-- ---- the cells

-- each has 2, 3 or 4 units
unfoldable pub ShortCells : List ℕ → Type 0
ShortCells [] = Unit
ShortCells (c ∷ cs) = (2 ≤ c) × (c ≤ 4) × ShortCells cs

short_runs_have_short_cells
    : (ss : List Bool) (zeros : ℕ) → ShortRuns zeros ss → ShortCells (cells_from (suc (suc zeros)) ss)
unfolding ShortRuns ShortCells cells_from
short_runs_have_short_cells [] zeros r = tt
short_runs_have_short_cells (false ∷ ss) zeros r = short_runs_have_short_cells ss (suc zeros) r
short_runs_have_short_cells (true ∷ ss) zeros r = (omega arith, omega arith, short_runs_have_short_cells ss 0 r.1)

pub written_cells_are_short : (ws : List ℕ) → ShortCells (written_cells ws)
unfolding written_cells cells_of
written_cells_are_short ws = short_runs_have_short_cells (written_symbols ws) 0 (written_runs_are_short ws)

-- Why a length depends on the cell and its neighbours alone: the symbols around a transition are 1 exactly where the
-- cell before it, or the cell after it, has no zero. Rests on no axiom.
use Prim.Native.Nat.{ℕ, zero, suc, ◌+◌, ◌-◌, ◌*◌}
use mathlib.Core.Path.{◌≡◌, refl, sym, ap, ap₂, ◌∙◌}
use mathlib.Core.Bool.{Bool, true, false, ◌&&◌, and-true, and-false}
use mathlib.Core.List.{List, [], ◌∷◌, ◌++◌}
use native.Mathlib.Omega.{arith}
use lib.Dec.{eqb}
use borrow.Author.Tests.{ne_eqb}
use Rattle.timing.specs.declared.Profile.{Profile}
use Rattle.symbols.specs.Cells.{cells_from, cells_of, written_cells}
use Rattle.lengths.specs.Lengths.{point, symbol_after, cell_length, lengths_from, lengths_of}
use Rattle.lengths.specs.Neighbours.{point_between, between, next_cell, lengths_between}
use Rattle.lengths.specs.Stream.{byte_stream}
use Rattle.lengths.specs.Claims.{LengthsByNeighbours}
use Rattle.lengths.proofs.StreamLaws.{no_zero}
use Rattle.lengths.proofs.SumLaws.{written_symbols_end_in_one}

-- a cell has 2 units where it has no zero
two_units : (zeros : ℕ) → no_zero zeros ≡ eqb (suc (suc zeros)) 2
two_units zero = refl
two_units (suc z) = sym (ne_eqb (suc (suc (suc z))) 2 (λ e. omega arith))

-- the symbol after the start of the open cell, which has so many zeros already
abbrev after_start : ℕ → List Bool → Bool
after_start zeros ss = no_zero zeros && symbol_after ss

-- symbols that end in a 1
abbrev closed : List Bool → List Bool
closed ss = ss ++ (true ∷ [])

longer_than_two : (ss : List Bool) (z : ℕ) → eqb (next_cell (cells_from (suc (suc (suc z))) (closed ss))) 2 ≡ false
unfolding next_cell cells_from
longer_than_two [] z = sym (two_units (suc z))
longer_than_two (true ∷ ss) z = sym (two_units (suc z))
longer_than_two (false ∷ ss) z = longer_than_two ss (suc z)

symbol_after_by_next : (ss : List Bool) → symbol_after (closed ss) ≡ eqb (next_cell (cells_from 2 (closed ss))) 2
unfolding next_cell cells_from symbol_after
symbol_after_by_next [] = refl
symbol_after_by_next (true ∷ ss) = refl
symbol_after_by_next (false ∷ ss) = sym (longer_than_two ss 0)

module _ (p : Profile) where
  cell_between
      : (before zeros next : ℕ) (start : Bool) (after : Bool)
      → start ≡ no_zero zeros
      → after ≡ eqb next 2
      → cell_length p zeros (point p (eqb before 2) start) (point p (no_zero zeros) after)
      ≡ between p before (suc (suc zeros)) next
  unfolding between
  cell_between before zeros next start after starts ends =
      let cell = suc (suc zeros) in
      let units : zeros ≡ cell - 2 = omega arith in
      rw (starts, ends, two_units zeros)
      (ap (λ (z : ℕ). cell_length p z (point_between p before cell) (point_between p cell next)) units)

  -- the open cell has so many zeros already, after a cell
  lengths_from_by_neighbours
      : (ss : List Bool) (before zeros : ℕ)
      → lengths_from p (point p (eqb before 2) (after_start zeros (closed ss))) zeros (no_zero zeros) (closed ss)
      ≡ lengths_between p before (cells_from (suc (suc zeros)) (closed ss))
  unfolding lengths_from lengths_between next_cell cells_from symbol_after
  lengths_from_by_neighbours [] before zeros =
      cc (cell_between before zeros 2 _ true (and-true (no_zero zeros)) refl)
  lengths_from_by_neighbours (false ∷ ss) before zeros =
      cc (and-false (no_zero zeros), lengths_from_by_neighbours ss before (suc zeros))
  lengths_from_by_neighbours (true ∷ ss) before zeros =
      ap₂ ◌∷◌
      (cell_between before zeros _ _ (symbol_after (closed ss)) (and-true (no_zero zeros))
      (symbol_after_by_next ss))
      (ap (λ (t : Bool). lengths_from p (point p t (symbol_after (closed ss))) 0 true (closed ss)) (two_units zeros)
      ∙ lengths_from_by_neighbours ss (suc (suc zeros)) 0)

pub lengths_by_neighbours : LengthsByNeighbours
unfolding byte_stream lengths_of written_cells cells_of
lengths_by_neighbours p ws =
    let ends = written_symbols_end_in_one ws in rw ends.1 (lengths_from_by_neighbours p ends.0 2 0)

-- ---- by zeros, as a program has them

no_zeros : (zeros : ℕ) → eqb zeros 0 ≡ eqb (2 + zeros) 2
no_zeros zero = refl
no_zeros (suc z) = ne_eqb (suc z) 0 (λ e. omega arith) ∙ sym (ne_eqb (2 + suc z) 2 (λ e. omega arith))

pub length_by_zeros
    : (p : Profile) (before zeros after start end : ℕ)
    → start ≡ point p (eqb before 0) (eqb zeros 0)
    → end ≡ point p (eqb zeros 0) (eqb after 0)
    → p.t1.0 + zeros * p.t0.0 + 2 * end - 2 * start ≡ between p (2 + before) (2 + zeros) (2 + after)
unfolding between cell_length
length_by_zeros p before zeros after start end starts ends =
    let units : zeros ≡ 2 + zeros - 2 = omega arith in
    rw (starts, ends, no_zeros before, no_zeros zeros, no_zeros after)
    (ap (λ (z : ℕ). cell_length p z (point_between p (2 + before) (2 + zeros)) (point_between p (2 + zeros) (2 + after)))
    units)

-- What the lengths of a stream add up to: where one cell ends the next starts, so each compare point between the first
-- and the last is added once and taken away once, and only the nominal lengths and the two outer points are left. Rests
-- on no axiom.
use Prim.Native.Nat.{ℕ, suc, ◌+◌, ◌-◌, ◌*◌, ◌≤◌}
use mathlib.Core.Path.{◌≡◌, refl, ap, ◌∙◌}
use mathlib.Core.Bool.{Bool, true, false}
use mathlib.Core.List.{List, [], ◌∷◌, ◌++◌, append_assoc}
use native.Mathlib.Nat.{add-mul}
use native.Mathlib.Omega.{arith}
use lib.ListN.{length}
use Rattle.lists.specs.Sum.{sum_of}
use Rattle.timing.specs.declared.Profile.{Profile}
use Rattle.timing.proofs.ProfileLaws.{Kept}
use Rattle.symbols.specs.Bits.{Bit, O, I, G, all_bits, bits_of}
use Rattle.symbols.specs.Cells.{pair_symbols, symbols_from, symbols_of, cells_from, cells_of, written_symbols, written_cells}
use Rattle.lengths.specs.Lengths.{point, symbol_after, cell_length, lengths_from, lengths_of}
use Rattle.lengths.specs.Points.{first_point, last_point_from, last_point, zeros_in}
use Rattle.lengths.specs.Stream.{byte_stream}
use Rattle.lengths.proofs.PointLaws.{point_is_in_range}
use Rattle.lengths.proofs.StreamLaws.{stream_is_as_long_as_its_cells}

-- the 0s after the last transition, which no cell has
unfoldable open_zeros : ℕ → List Bool → ℕ
open_zeros zeros [] = zeros
open_zeros zeros (false ∷ ss) = open_zeros (suc zeros) ss
open_zeros zeros (true ∷ ss) = open_zeros 0 ss

-- one cell more: a is T1, b the cell's zeros × T0
cell_adds
    : (a b start end rest left ones zeros last : ℕ)
    → 2 * start ≤ a + b + 2 * end
    → rest + 2 * end + left ≡ ones + zeros + 2 * last
    → (a + b + 2 * end - 2 * start) + rest + 2 * start + left ≡ (a + ones) + (b + zeros) + 2 * last
cell_adds a b start end rest left ones zeros last enough e = omega arith

module _ {p : Profile} (k : Kept p) where
  sum_from
      : (ss : List Bool) (start zeros : ℕ) (before : Bool)
      → start ≤ p.late.0
      → sum_of (lengths_from p start zeros before ss) + 2 * start + open_zeros zeros ss * p.t0.0
      ≡ length (lengths_from p start zeros before ss) * p.t1.0 + (zeros + zeros_in ss) * p.t0.0
      + 2 * last_point_from p start before ss
  unfolding sum_of lengths_from cell_length open_zeros zeros_in last_point_from
  sum_from [] start zeros before h = omega (arith, add-mul zeros 0 p.t0.0)
  sum_from (false ∷ ss) start zeros before h =
      sum_from ss start (suc zeros) false h
      ∙ ap (λ (n : ℕ). length (lengths_from p start (suc zeros) false ss) * p.t1.0 + n * p.t0.0
      + 2 * last_point_from p start false ss) (omega arith)
  sum_from (true ∷ ss) start zeros before h =
      let end = point p before (symbol_after ss) in
      let rest = lengths_from p end 0 true ss in
      let range = point_is_in_range k before (symbol_after ss) in
      cell_adds p.t1.0 (zeros * p.t0.0) start end (sum_of rest) _ (length rest * p.t1.0) (zeros_in ss * p.t0.0)
      _ (omega (arith, k, range)) (sum_from ss end 0 true range.1
      ∙ ap (λ (n : ℕ). length rest * p.t1.0 + n * p.t0.0 + 2 * last_point_from p end true ss) (omega arith))
      ∙ omega (arith, add-mul zeros (zeros_in ss) p.t0.0)

-- ---- the cells and the 0s in units

units_from
    : (ss : List Bool) (zeros : ℕ)
    → sum_of (cells_from (suc (suc zeros)) ss) + open_zeros zeros ss
    ≡ 2 * length (cells_from (suc (suc zeros)) ss) + zeros_in ss + zeros
unfolding sum_of cells_from open_zeros zeros_in
units_from [] zeros = omega arith
units_from (false ∷ ss) zeros = omega (arith, units_from ss (suc zeros))
units_from (true ∷ ss) zeros = omega (arith, units_from ss 0)

-- ---- written symbols end in a 1

closed_by_one : (ss : List Bool) (zeros : ℕ) → open_zeros zeros (ss ++ (true ∷ [])) ≡ 0
unfolding open_zeros
closed_by_one [] zeros = refl
closed_by_one (false ∷ ss) zeros = closed_by_one ss (suc zeros)
closed_by_one (true ∷ ss) zeros = closed_by_one ss 0

-- the second closing 0 after the first gives a symbol 1, the last of all
ends_in_one : (b : Bit) (bs : List Bit) → (ss : List Bool) × (symbols_from b (bs ++ (O ∷ O ∷ [])) ≡ ss ++ (true ∷ []))
unfolding symbols_from pair_symbols
ends_in_one O [] = (true ∷ [], refl)
ends_in_one I [] = (false ∷ [], refl)
ends_in_one G [] = (false ∷ false ∷ [], refl)
ends_in_one b (x ∷ bs) = let rest = ends_in_one x bs in (pair_symbols b x ++ rest.0, cc (append_assoc _ _ _))

pub written_symbols_end_in_one : (ws : List ℕ) → (ss : List Bool) × (written_symbols ws ≡ ss ++ (true ∷ []))
unfolding written_symbols symbols_of bits_of
written_symbols_end_in_one ws = ends_in_one O (all_bits ws)

module _ {p : Profile} (k : Kept p) where
  point_after_one : (after : Bool) → (p.early.0 ≤ point p true after) × (point p true after ≤ p.normal.0)
  unfolding point
  point_after_one true = omega arith
  point_after_one false = omega arith

  last_before_one
      : (ss : List Bool) (at : ℕ) (before : Bool)
      → (p.normal.0 ≤ last_point_from p at before (ss ++ (true ∷ [])))
      × (last_point_from p at before (ss ++ (true ∷ [])) ≤ p.late.0)
  unfolding last_point_from symbol_after point
  last_before_one [] at true = omega arith
  last_before_one [] at false = omega arith
  last_before_one (false ∷ ss) at before = last_before_one ss at false
  last_before_one (true ∷ ss) at before = last_before_one ss _ true

none_open : (ws : List ℕ) → open_zeros 0 (written_symbols ws) ≡ 0
none_open ws = let ends = written_symbols_end_in_one ws in cc (closed_by_one ends.0 0)

module _ (p : Profile) (k : Kept p) (ws : List ℕ) where
  -- cells × T1 and 0s × T0, and the two outer compare points
  pub sum_of_stream
      : sum_of (byte_stream p ws) + 2 * first_point p (written_symbols ws)
      ≡ length (byte_stream p ws) * p.t1.0 + zeros_in (written_symbols ws) * p.t0.0
      + 2 * last_point p (written_symbols ws)
  unfolding byte_stream lengths_of first_point last_point
  sum_of_stream =
      let first = point_is_in_range k true (symbol_after (written_symbols ws)) in
      omega (arith, rw (none_open ws) at (sum_from k (written_symbols ws) _ 0 true first.1))

  -- a cell has 2 units and one for each 0
  pub units_of_stream
      : sum_of (written_cells ws) ≡ 2 * length (byte_stream p ws) + zeros_in (written_symbols ws)
  unfolding written_cells cells_of
  units_of_stream =
      omega (arith, none_open ws, units_from (written_symbols ws) 0, stream_is_as_long_as_its_cells p ws)

  -- the first transition has a symbol 1 before it
  pub first_point_is_early
      : (p.early.0 ≤ first_point p (written_symbols ws)) × (first_point p (written_symbols ws) ≤ p.normal.0)
  unfolding first_point
  first_point_is_early = point_after_one k (symbol_after (written_symbols ws))

  -- and the last has one after it
  pub last_point_is_late
      : (p.normal.0 ≤ last_point p (written_symbols ws)) × (last_point p (written_symbols ws) ≤ p.late.0)
  unfolding last_point
  last_point_is_late = let ends = written_symbols_end_in_one ws in rw ends.1 (last_before_one k ends.0 _ true)

-- How many units, cells and bits go together: a cell of u units gives half as many bits, and half a bit is owed after
-- a 1. So the units alone say how many bits cells give, whether the last is 1, and whether they are whole bytes.
use Rattle.std.proofs.Common.{◌≡◌, ℕ, ◌+◌, ◌*◌, ◌/◌, ◌%◌, ◌≤◌, not, ◌||◌, eqb, List, [], ◌∷◌, ◌++◌, map, length, refl, ap, ◌∙◌, arith, length-append, eq-eqb, ne_eqb}
use mathlib.Core.Bool.{or-false, or-true}
use native.Mathlib.Decide.{ℕ_discrete}
use lib.ListN.{length-map}
use lib.Arith.{digits_mod}
use Rattle.lists.specs.Sum.{sum_of}
use Rattle.symbols.specs.Bits.{Bit, O, I, G, is_one, last_of, all_bits}
use Rattle.symbols.specs.Cells.{written_cells}
use Rattle.symbols.specs.Reading.{units, given, last_after, read_from, read_bits}
use Rattle.symbols.specs.Bytes.{digit}
use Rattle.symbols.specs.Strip.{is_ragged, ends_in_one}
use Rattle.symbols.specs.declared.Cell.{Cell}
use Rattle.symbols.specs.declared.Cell.TheVariants.{Short, Medium, Long}
use Rattle.symbols.proofs.TestLaws.{same_test}
use Rattle.symbols.proofs.ReadingLaws.{last_of_given, last_of_snoc, cell_gives}
use Rattle.symbols.proofs.RoundTripLaws.{cells_are_read, read_of_write, bits_count}

-- the sum of some cells in units
unfoldable pub units_sum : List Cell → ℕ
units_sum [] = 0
units_sum (c ∷ cs) = units c + units_sum cs

pub sum_of_units : (cs : List Cell) → sum_of (map units cs) ≡ units_sum cs
unfolding sum_of units_sum
sum_of_units [] = refl
sum_of_units (c ∷ cs) = rw (sum_of_units cs)

pub units_of_both : (cs ds : List Cell) → units_sum (cs ++ ds) ≡ units_sum cs + units_sum ds
unfolding units_sum
units_of_both [] ds = omega arith
units_of_both (c ∷ cs) ds = omega (arith, units_of_both cs ds)

-- two units to a bit; after a 1 one unit of the next bit is already there
pub units_of_bits :
    (b : Bit) (cs : List Cell) → 2 * length (read_from b cs) + digit b ≡ units_sum cs + digit (last_of b (read_from b cs))
unfolding units_sum read_from last_of
units_of_bits b [] = omega arith
units_of_bits b (c ∷ cs) =
    rw (length-append (given b c), last_of_given b c)
    (omega (arith, (cell_gives b c).2, units_of_bits (last_after b c) cs))

pub digit_is_small : (b : Bit) → digit b ≤ 1
digit_is_small O = omega arith
digit_is_small I = omega arith
digit_is_small G = omega arith

pub units_range : (c : Cell) → (2 ≤ units c) × (units c ≤ 4)
units_range Short = (omega arith, omega arith)
units_range Medium = (omega arith, omega arith)
units_range Long = (omega arith, omega arith)

pub units_at_least : (ds : List Cell) → 2 * length ds ≤ units_sum ds
unfolding units_sum
units_at_least [] = omega arith
units_at_least (d ∷ ds) = omega (arith, (units_range d).0, units_at_least ds)

-- a 1 is the digit 1
one_by_digit : (b : Bit) (n : ℕ) → n ≡ digit b → is_one b ≡ eqb n 1
one_by_digit O n h = rw h
one_by_digit I n h = rw h
one_by_digit G n h = rw h

twice_mod : (l u : ℕ) → u ≡ 2 * l → u % 16 ≡ 2 * (l % 8)
twice_mod l u double =
    let q : u ≡ l / 8 * 16 + 2 * (l % 8) = omega arith in rw q (digits_mod (l / 8) (omega arith))

-- l bits of u units, l the half of u rounded up
by_units : (l u : ℕ) → l ≡ (u + 1) / 2 → (not (eqb (l % 8) 2) || eqb (u % 2) 1) ≡ not (eqb (u % 16) 4)
by_units l u h =
    elim (ℕ_discrete (u % 2) 1) [
      | yes odd ↦ rw (eq-eqb (u % 2) 1 odd, ne_eqb (u % 16) 4 (λ e. omega arith)) (or-true (not (eqb (l % 8) 2)))
      | no even ↦
          let twice = twice_mod l u (omega arith) in
          rw (ne_eqb (u % 2) 1 even) (or-false (not (eqb (l % 8) 2))
          ∙ ap not (same_test (l % 8) 2 (u % 16) 4 (λ e. omega arith) (λ e. omega arith)))
    ]

module _ (cs : List Cell) where
  pub bits_known : 2 * length (read_bits cs) ≡ units_sum cs + digit (last_of O (read_bits cs))
  unfolding read_bits
  bits_known = omega (arith, units_of_bits O cs)

  pub length_by_units : length (read_bits cs) ≡ (units_sum cs + 1) / 2
  length_by_units = omega (arith, bits_known, digit_is_small (last_of O (read_bits cs)))

  pub last_by_units : ends_in_one (read_bits cs) ≡ eqb (units_sum cs % 2) 1
  unfolding ends_in_one
  last_by_units =
      one_by_digit (last_of O (read_bits cs)) (units_sum cs % 2)
      (omega (arith, bits_known, digit_is_small (last_of O (read_bits cs))))

  -- not ragged exactly where the units are 16 n + 4
  pub ragged_by_units : is_ragged (read_bits cs) ≡ not (eqb (units_sum cs % 16) 4)
  unfolding is_ragged
  ragged_by_units = rw last_by_units (by_units (length (read_bits cs)) (units_sum cs) length_by_units)

-- Counts

pub given_at_least_one : (b : Bit) (c : Cell) → 1 ≤ length (given b c)
given_at_least_one b c = omega (arith, (cell_gives b c).2, (units_range c).0, digit_is_small b)

-- each cell gives a bit or two
pub cells_at_most_bits : (b : Bit) (cs : List Cell) → length cs ≤ length (read_from b cs)
unfolding read_from
cells_at_most_bits b [] = omega arith
cells_at_most_bits b (c ∷ cs) =
    omega (
      arith,
      length-append (given b c) (read_from (last_after b c) cs),
      given_at_least_one b c,
      cells_at_most_bits (last_after b c) cs,
    )

-- n bytes have at most 8 n + 2 cells
pub cells_at_most : (ws : List ℕ) → length (written_cells ws) ≤ 8 * length ws + 2
unfolding read_bits
cells_at_most ws =
    let (cs, e) = cells_are_read ws in
    let n = ap length (read_of_write ws cs e) ∙ bits_count ws in
    rw (← e, length-map) (omega (arith, cells_at_most_bits O cs))

-- and 16 n + 4 units
pub units_of_written : (ws : List ℕ) → sum_of (written_cells ws) ≡ 16 * length ws + 4
unfolding last_of
units_of_written ws =
    let (cs, e) = cells_are_read ws in
    let known = rw (read_of_write ws cs e, last_of_snoc O O (all_bits ws)) at (bits_known cs) in
    rw (← e, sum_of_units) (omega (arith, known, bits_count ws))

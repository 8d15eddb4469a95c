-- Cells as half cells: they are those of the letters that the cells give, so many as the cells have units, with a 1 for
-- each cell; and a letter's cell is told by the 1s after it.
use Rattle.std.proofs.Common.{◌≡◌, ℕ, zero, suc, ◌+◌, ◌<◌, List, [], ◌∷◌, ◌++◌, length, get_or, refl, arith}
use Rattle.symbols.specs.Bits.{Bit, O, I, last_of}
use Rattle.symbols.specs.Reading.{given, last_after, read_from, read_bits, source_of, sources_from, sources}
use Rattle.symbols.specs.declared.Cell.{Cell}
use Rattle.symbols.specs.declared.Cell.TheVariants.{Short, Medium, Long}
use Rattle.symbols.proofs.UnitLaws.{units_sum}
use Rattle.symbols.proofs.HalfCells.{clock_after, data_of, cells_after, halves, track, clock_at_end, ones_among}
use Rattle.symbols.proofs.HalfCells.{from_letter}

pub cells_after_append
    : (b : Bit) (xs ys : List Bit) → cells_after b (xs ++ ys) ≡ cells_after b xs ++ cells_after (last_of b xs) ys
unfolding cells_after last_of
cells_after_append b [] ys = refl
cells_after_append b (x ∷ xs) ys = rw (cells_after_append x xs ys)

pub cells_after_length : (b : Bit) (bs : List Bit) → length (cells_after b bs) ≡ length bs + length bs
unfolding cells_after
cells_after_length b [] = refl
cells_after_length b (x ∷ bs) = omega (arith, cells_after_length x bs)

pub halves_append : (cs ds : List Cell) → halves (cs ++ ds) ≡ halves cs ++ halves ds
unfolding halves
halves_append [] ds = refl
halves_append (Short ∷ cs) ds = rw (halves_append cs ds)
halves_append (Medium ∷ cs) ds = rw (halves_append cs ds)
halves_append (Long ∷ cs) ds = rw (halves_append cs ds)

pub halves_length : (cs : List Cell) → length (halves cs) ≡ units_sum cs
unfolding halves units_sum
halves_length [] = refl
halves_length (Short ∷ cs) = omega (arith, halves_length cs)
halves_length (Medium ∷ cs) = omega (arith, halves_length cs)
halves_length (Long ∷ cs) = omega (arith, halves_length cs)

ones_of_halves : (cs : List Cell) → ones_among (halves cs) ≡ length cs
unfolding halves ones_among
ones_of_halves [] = refl
ones_of_halves (Short ∷ cs) = omega (arith, ones_of_halves cs)
ones_of_halves (Medium ∷ cs) = omega (arith, ones_of_halves cs)
ones_of_halves (Long ∷ cs) = omega (arith, ones_of_halves cs)

-- The letters' half cells

halves_after :
    (cs : List Cell)
    → (I ∷ halves cs ≡ cells_after O (read_from O cs) ++ clock_at_end (last_of O (read_from O cs)))
    × (halves cs ≡ cells_after I (read_from I cs) ++ clock_at_end (last_of I (read_from I cs)))
unfolding halves read_from given last_after last_of cells_after clock_after data_of
halves_after [] = (refl, refl)
halves_after (Short ∷ cs) = let (after_zero, after_one) = halves_after cs in (rw (← after_zero), rw (← after_one))
halves_after (Medium ∷ cs) = let (after_zero, after_one) = halves_after cs in (rw (← after_one), rw (← after_zero))
halves_after (Long ∷ cs) = let (after_zero, after_one) = halves_after cs in (rw (← after_zero), rw (← after_one))

pub track_of_letters : (cs : List Cell) → track cs ≡ cells_after O (read_bits cs) ++ clock_at_end (last_of O (read_bits cs))
unfolding track read_bits
track_of_letters cs = (halves_after cs).0

-- The cell that gave a letter: all cells but those that end with or after the letter's data bit

source_after :
    (k i : ℕ) (cs : List Cell)
    → (i < length (read_from O cs)
    → get_or (sources_from k O cs) i 0 + ones_among (from_letter i (I ∷ halves cs)) ≡ k + length cs)
    × (i < length (read_from I cs)
    → get_or (sources_from k I cs) i 0 + ones_among (from_letter i (halves cs)) ≡ k + length cs)
unfolding halves read_from given last_after sources_from source_of ones_among from_letter
source_after k i [] = (λ h. absurd (omega arith), λ h. absurd (omega arith))
source_after k zero (Short ∷ cs) = let ones = ones_of_halves cs in (λ h. omega arith, λ h. omega arith)
source_after k zero (Medium ∷ cs) = let ones = ones_of_halves cs in (λ h. omega arith, λ h. omega arith)
source_after k zero (Long ∷ cs) = let ones = ones_of_halves cs in (λ h. omega arith, λ h. omega arith)
source_after k (suc i) (Short ∷ cs) =
    let (after_zero, after_one) = source_after (suc k) i cs in
    (λ h. omega (arith, after_zero (omega arith)), λ h. omega (arith, after_one (omega arith)))
source_after k (suc zero) (Medium ∷ cs) =
    let ones = ones_of_halves cs in
    (λ h. omega arith, λ h. omega (arith, (source_after (suc k) zero cs).0 (omega arith)))
source_after k (suc (suc i)) (Medium ∷ cs) = (
  λ h. omega (arith, (source_after (suc k) i cs).1 (omega arith)),
  λ h. omega (arith, (source_after (suc k) (suc i) cs).0 (omega arith)),
)
source_after k (suc zero) (Long ∷ cs) = let ones = ones_of_halves cs in (λ h. omega arith, λ h. omega arith)
source_after k (suc (suc i)) (Long ∷ cs) =
    let (after_zero, after_one) = source_after (suc k) i cs in
    (λ h. omega (arith, after_zero (omega arith)), λ h. omega (arith, after_one (omega arith)))

pub source_of_letter
    : (cs : List Cell) (i : ℕ)
    → i < length (read_bits cs)
    → get_or (sources cs) i 0 + ones_among (from_letter i (track cs)) ≡ length cs
unfolding sources read_bits track
source_of_letter cs i h = omega (arith, (source_after 0 i cs).0 h)

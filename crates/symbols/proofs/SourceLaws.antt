-- The place of the cell that gave a letter, by the half cells from the letter on: each cell that ends there has left a
-- 1 among them.
use Rattle.std.proofs.Common.{◌≡◌, ℕ, zero, suc, ◌+◌, ◌-◌, ◌*◌, ◌%◌, ◌^◌, ◌<◌, List, [], ◌∷◌, ◌++◌, length, get_or, sym, refl, ap, ◌∙◌, arith, length-append}
use lib.Arith.{digits_mod}
use lib.Count.{ones, ones_in, ones_step}
use lib.Pow.{mod-mod-pow}
use Rattle.symbols.specs.Bits.{Bit}
use Rattle.symbols.specs.Bytes.{number_from}
use Rattle.symbols.specs.Reading.{read_bits, sources}
use Rattle.symbols.specs.declared.Cell.{Cell}
use Rattle.symbols.specs.declared.Cell.TheVariants.{Short, Medium, Long}
use Rattle.symbols.proofs.UnitLaws.{units_sum}
use Rattle.symbols.proofs.HalfCells.{halves, track, from_letter}
use Rattle.symbols.proofs.HalfLaws.{halves_length, source_of_letter}
use Rattle.symbols.proofs.NumberLaws.{ones_of_number, last_digits}

ends_in_one : (cs : List Cell) (n : ℕ) → number_from (n * 2 + 1) (halves cs) % 2 ≡ 1
unfolding halves number_from
ends_in_one [] n = digits_mod n (omega arith)
ends_in_one (Short ∷ cs) n = ends_in_one cs _
ends_in_one (Medium ∷ cs) n = ends_in_one cs _
ends_in_one (Long ∷ cs) n = ends_in_one cs _

-- the half cells before the data bit of a letter
cells_before :
    (i : ℕ) (hs : List Bit) → i + i < length hs
    → (front : List Bit) × (hs ≡ front ++ from_letter i hs) × (length front ≡ i + i + 1)
unfolding from_letter
cells_before i [] h = absurd (omega arith)
cells_before zero (c ∷ hs) h = (c ∷ [], refl, refl)
cells_before (suc i) (c ∷ []) h = absurd (omega arith)
cells_before (suc i) (c ∷ d ∷ hs) h =
    let (front, e, n) = cells_before i hs (omega arith) in (c ∷ d ∷ front, rw (← e), omega arith)

module _ (cs : List Cell) (i q : ℕ) (inside : i < length (read_bits cs)) (size : units_sum cs ≡ i + i + (q + 1)) where
  abbrev all : ℕ
  all = number_from 0 (track cs)

  abbrev rest : List Bit
  rest = from_letter i (track cs)

  long : length (track cs) ≡ suc (units_sum cs)
  unfolding track
  long = ap suc (halves_length cs)

  rest_number : all % 2 ^ (q + 1) ≡ number_from 0 rest
  rest_number =
      let (front, e, n) = cells_before i (track cs) (omega (arith, long)) in
      let left : q + 1 ≡ length rest = omega (arith, long, rw length-append at (ap length e)) in
      ap (λ (k : ℕ). all % 2 ^ k) left
      ∙ ap (λ (l : List Bit). number_from 0 l % 2 ^ length rest) e
      ∙ last_digits 0 front rest

  odd : number_from 0 rest % 2 ≡ 1
  unfolding track number_from
  odd = ap (λ (x : ℕ). x % 2) (sym rest_number) ∙ mod-mod-pow all q 1 ∙ ends_in_one cs 0

  register_rest : (j : ℕ) → j + (q + 1) ≡ 32 → all % 2 ^ 32 % 2 ^ (q + 1) ≡ number_from 0 rest
  register_rest j e =
      ap (λ (k : ℕ). all % 2 ^ k % 2 ^ (q + 1)) (sym e) ∙ mod-mod-pow all j (q + 1) ∙ rest_number

  -- the 1s from the letter on, of which there is one, and the cells before them are all cells
  pub place_by_ones :
      q < 32
      → (0 < ones (all % 2 ^ 32 % 2 ^ (q + 1)))
      × (ones (all % 2 ^ 32 % 2 ^ (q + 1)) + get_or (sources cs) i 0 ≡ length cs)
  unfolding ones ones_in
  place_by_ones room =
      let same = ap ones (register_rest (31 - q) (omega arith)) in
      let counted = ones_of_number 0 rest in (
        omega (arith, ones_step (number_from 0 rest), odd),
        omega (arith, source_of_letter cs i inside),
      )

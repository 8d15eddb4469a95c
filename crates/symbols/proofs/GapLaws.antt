-- Where gaps are among letters: by the units of the cells that give them, since half a bit is owed after a 1; and parts
-- of letters without one have none, so that no byte of them has one out of place. Rests on no axiom.
use Rattle.std.proofs.Common.{◌≡◌, ℕ, zero, suc, ◌+◌, ◌-◌, ◌%◌, ◌≤◌, Bool, false, ◌&&◌, eqb, List, [], ◌∷◌, ◌++◌, map, length, take, drop, sym, refl, ap, ◌∙◌, arith, take-append-drop, drop-drop}
use Rattle.lists.specs.Place.{anywhere, passed}
use Rattle.lists.proofs.PlaceLaws.{anywhere-append}
use Rattle.symbols.specs.Bits.{Bit, O, I, G, last_of}
use Rattle.symbols.specs.Bytes.{digit, is_gap, strays_from}
use Rattle.symbols.specs.Reading.{units, given, last_after, read_from}
use Rattle.symbols.specs.machine.Gaps.{gaps_from}
use Rattle.symbols.specs.declared.Cell.{Cell}
use Rattle.symbols.specs.declared.Cell.TheVariants.{Short, Medium, Long}
use Rattle.symbols.proofs.TestLaws.{neither}
use Rattle.symbols.proofs.ReadingLaws.{cell_gives}
use Rattle.symbols.proofs.UnitLaws.{digit_is_small}

-- ---- gaps by units

gap_of_cell : (b : Bit) (c : Cell) → (eqb (units c) 4 && eqb (digit b) 0) ≡ anywhere is_gap (given b c)
unfolding given anywhere
gap_of_cell O Short = refl
gap_of_cell O Medium = refl
gap_of_cell O Long = refl
gap_of_cell I Short = refl
gap_of_cell I Medium = refl
gap_of_cell I Long = refl
gap_of_cell G Short = refl
gap_of_cell G Medium = refl
gap_of_cell G Long = refl

-- half a bit is owed after a 1
pub gaps_by_letters
    : (q : ℕ) (b : Bit) (ds : List Cell)
    → q % 2 ≡ digit b
    → gaps_from q (map units ds) ≡ anywhere is_gap (read_from b ds)
unfolding gaps_from read_from anywhere
gaps_by_letters q b [] e = refl
gaps_by_letters q b (d ∷ ds) e =
    let next : (q + units d) % 2 ≡ digit (last_after b d) =
    omega (arith, (cell_gives b d).2, digit_is_small (last_after b d)) in
    rw (e, gap_of_cell b d, gaps_by_letters (q + units d) (last_after b d) ds next, anywhere-append)

-- ---- letters of which none is a gap

module _ {A : Type 0} (f : A → Bool) where
  pub none_in_parts
      : (n : ℕ) (xs : List A)
      → anywhere f xs ≡ false
      → (anywhere f (take n xs) ≡ false) × (anywhere f (drop n xs) ≡ false)
  none_in_parts n xs h =
      neither (anywhere f (take n xs)) (anywhere f (drop n xs))
      (sym (anywhere-append f (take n xs) (drop n xs)) ∙ ap (anywhere f) (take-append-drop n xs) ∙ h)

  pub none_in_both
      : (n : ℕ) (xs ys : List A)
      → anywhere f (drop n xs) ≡ false
      → anywhere f ys ≡ false
      → anywhere f (drop n (xs ++ ys)) ≡ false
  none_in_both zero xs ys h g = rw (anywhere-append, h, g)
  none_in_both (suc n) [] ys h g = (none_in_parts (suc n) ys g).1
  none_in_both (suc n) (x ∷ xs) ys h g = none_in_both n xs ys h g

  -- from a later place on
  pub none_behind
      : (n k : ℕ) (xs ys : List A)
      → n ≤ k
      → anywhere f (drop n xs) ≡ false
      → anywhere f ys ≡ false
      → anywhere f (drop k (xs ++ ys)) ≡ false
  none_behind n k xs ys le h g =
      let later : n + (k - n) ≡ k = omega arith in
      rw (drop-drop, later) at (none_in_parts (k - n) (drop n (xs ++ ys)) (none_in_both n xs ys h g)).1

pub no_stray
    : (byte k : ℕ) (row : List Bit) → anywhere is_gap row ≡ false → anywhere passed (strays_from byte k row) ≡ false
unfolding strays_from anywhere
no_stray byte k [] h = refl
no_stray byte k (b ∷ row) h =
    let (here, later) = neither (is_gap b) (anywhere is_gap row) h in
    rw (here, no_stray byte (suc k) row later)

-- the last letter of the whole bytes, and those behind it
pub open_letters
    : (lead : Bit) (before rest : List Bit)
    → drop (length before) (lead ∷ before ++ rest) ≡ last_of lead before ∷ rest
unfolding last_of
open_letters lead [] rest = refl
open_letters lead (b ∷ before) rest = open_letters b before rest

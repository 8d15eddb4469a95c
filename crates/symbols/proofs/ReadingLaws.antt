-- Cells and the letters that reading them gives. Reading stands at a transition: before a 0 that follows a 0 (state O)
-- or after a 1 (state I). So the pairs of the letters read, with one closing 0 more, have just the cells that were
-- read, for every list of cells.
use Rattle.std.proofs.Common.{◌≡◌, ℕ, ◌+◌, ◌*◌, Bool, true, false, cond, eqb, List, [], ◌∷◌, ◌++◌, map, length, sym, refl, ap, ◌∙◌, append_assoc}
use Rattle.symbols.specs.Bits.{Bit, O, I, G, is_one, last_of}
use Rattle.symbols.specs.Cells.{pair_symbols, symbols_from, symbols_of, cells_from, cells_of}
use Rattle.symbols.specs.Bytes.{is_gap, digit}
use Rattle.symbols.specs.Reading.{units, given, last_after, read_from, read_bits}
use Rattle.symbols.specs.declared.Cell.{Cell}
use Rattle.symbols.specs.declared.Cell.TheVariants.{Short, Medium, Long}

-- Cells and units

abbrev cell_of : ℕ → Cell
cell_of n = cond (eqb n 2) Short (cond (eqb n 3) Medium Long)

cells_again : (cs : List Cell) → map cell_of (map units cs) ≡ cs
cells_again [] = refl
cells_again (Short ∷ cs) = rw (cells_again cs)
cells_again (Medium ∷ cs) = rw (cells_again cs)
cells_again (Long ∷ cs) = rw (cells_again cs)

pub units_injective : (cs ds : List Cell) → map units cs ≡ map units ds → cs ≡ ds
units_injective cs ds h = sym (cells_again cs) ∙ ap (map cell_of) h ∙ cells_again ds

-- The cells of what was read

abbrev closing : List Bit
closing = O ∷ []

-- after a 0 a 0 follows, so the pair of the two gives a transition
zero_then_read :
    (cs : List Cell) → symbols_from O (read_from O cs ++ closing) ≡ true ∷ symbols_of (read_from O cs ++ closing)
unfolding read_from given symbols_from symbols_of pair_symbols
zero_then_read [] = refl
zero_then_read (Short ∷ cs) = refl
zero_then_read (Medium ∷ cs) = refl
zero_then_read (Long ∷ cs) = refl

-- after a 0 and after a 1
pub cells_read_after :
    (cs : List Cell)
    → (cells_from 2 (symbols_of (read_from O cs ++ closing)) ≡ map units cs)
    × (cells_from 2 (symbols_from I (read_from I cs ++ closing)) ≡ map units cs)
unfolding read_from given last_after symbols_from symbols_of pair_symbols cells_from
cells_read_after [] = (refl, refl)
cells_read_after (Short ∷ cs) = let (zero, one) = cells_read_after cs in (rw (zero_then_read cs, zero), rw one)
cells_read_after (Medium ∷ cs) = let (zero, one) = cells_read_after cs in (rw one, rw (zero_then_read cs, zero))
cells_read_after (Long ∷ cs) = let (zero, one) = cells_read_after cs in (rw (zero_then_read cs, zero), rw one)

-- for every list of cells
pub cells_of_read : (cs : List Cell) → cells_of (symbols_of (read_bits cs ++ (O ∷ []))) ≡ map units cs
unfolding read_bits cells_of
cells_of_read cs = (cells_read_after cs).0

-- The first letter that is read

abbrev pub begins_with_one : List Bit → Bool
begins_with_one [] = false
begins_with_one (b ∷ bs) = is_one b

-- no cell gives a 1 right after a 0 that is known
pub no_one_after_zero : (cs : List Cell) → begins_with_one (read_from O cs) ≡ false
unfolding read_from given
no_one_after_zero [] = refl
no_one_after_zero (Short ∷ cs) = refl
no_one_after_zero (Medium ∷ cs) = refl
no_one_after_zero (Long ∷ cs) = refl

-- What a cell gives: its letters end in the last bit known after it, whatever was before, and that begins no gap; two
-- units make a letter, and after a 1 one unit of the next is already there

pub cell_gives :
    (b : Bit) (c : Cell)
    → ((x : Bit) (bs : List Bit) → last_of x (given b c ++ bs) ≡ last_of (last_after b c) bs)
    × (is_gap (last_after b c) ≡ false)
    × (2 * length (given b c) + digit b ≡ units c + digit (last_after b c))
unfolding given last_after last_of
cell_gives O Short = (λ x bs. refl, refl, refl)
cell_gives O Medium = (λ x bs. refl, refl, refl)
cell_gives O Long = (λ x bs. refl, refl, refl)
cell_gives I Short = (λ x bs. refl, refl, refl)
cell_gives I Medium = (λ x bs. refl, refl, refl)
cell_gives I Long = (λ x bs. refl, refl, refl)
cell_gives G Short = (λ x bs. refl, refl, refl)
cell_gives G Medium = (λ x bs. refl, refl, refl)
cell_gives G Long = (λ x bs. refl, refl, refl)

pub last_of_given : (b : Bit) (c : Cell) (bs : List Bit) → last_of b (given b c ++ bs) ≡ last_of (last_after b c) bs
last_of_given b c = (cell_gives b c).0 b

-- The last letter that was read

pub last_read_is_no_gap : (b : Bit) (cs : List Cell) → is_gap b ≡ false → is_gap (last_of b (read_from b cs)) ≡ false
unfolding read_from last_of
last_read_is_no_gap b [] h = h
last_read_is_no_gap b (c ∷ cs) h =
    rw (last_of_given b c) (last_read_is_no_gap (last_after b c) cs (cell_gives b c).1)

pub last_is_no_gap : (cs : List Cell) → is_gap (last_of O (read_bits cs)) ≡ false
unfolding read_bits
last_is_no_gap cs = last_read_is_no_gap O cs refl

pub last_of_snoc : (b z : Bit) (bs : List Bit) → last_of b (bs ++ (z ∷ [])) ≡ z
unfolding last_of
last_of_snoc b z [] = refl
last_of_snoc b z (c ∷ bs) = last_of_snoc c z bs

-- more cells are read on from the last letter of those before
pub read_append :
    (b : Bit) (cs ds : List Cell) → read_from b (cs ++ ds) ≡ read_from b cs ++ read_from (last_of b (read_from b cs)) ds
unfolding read_from last_of
read_append b [] ds = refl
read_append b (c ∷ cs) ds = rw (read_append (last_after b c) cs ds, last_of_given b c, append_assoc)

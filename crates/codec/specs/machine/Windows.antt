-- Machine, not meaning: laws tie it to the stream (`proofs/WindowLaws`). No lemmas here.
-- The cells that end at data bits, by the bits around them; true is the bit 1. A bit ends one cell at most.
use Rattle.std.specs.Prelude.{ℕ, ◌/◌, ◌%◌, Bool, true, cond, ◌&&◌, List, eqb}
use Rattle.lists.specs.Table.{tabulated}
use Rattle.timing.specs.declared.Profile.{Profile}
use Rattle.lengths.specs.Neighbours.{between}

-- a 0 after a 1 ends none
unfoldable pub ends : Bool → Bool → Bool
ends before bit = cond before bit true

-- the units of the cell that ends at a bit, by the two before it
unfoldable pub units_at : Bool → Bool → Bool → ℕ
units_at b2 b1 bit = cond b1 2 (cond b2 (cond bit 4 3) (cond bit 3 2))

-- of the cell before that one, by the three before the bit; 3 stands for all units above 2
unfoldable pub units_before : Bool → Bool → Bool → ℕ
units_before b3 b2 b1 = cond b1 (cond b2 2 3) (cond b2 (cond b3 2 3) (cond b3 3 2))

-- of the cell behind it, by the bit and the next
unfoldable pub units_after : Bool → Bool → ℕ
units_after bit next = cond bit (cond next 2 3) (cond next 3 2)

-- the length of the cell that ends at a bit, by the three before it and the next
unfoldable pub length_at : Profile → Bool → Bool → Bool → Bool → Bool → ℕ
length_at p b3 b2 b1 bit next = between p (units_before b3 b2 b1) (units_at b2 b1 bit) (units_after bit next)

-- of the cells that end at two bits, the first and the last; one ends at least
unfoldable pub first_length : Profile → Bool → Bool → Bool → Bool → Bool → Bool → ℕ
first_length p b3 b2 b1 bit next behind =
    cond (ends b1 bit) (length_at p b3 b2 b1 bit next) (length_at p b2 b1 bit next behind)

unfoldable pub last_length : Profile → Bool → Bool → Bool → Bool → Bool → Bool → ℕ
last_length p b3 b2 b1 bit next behind =
    cond (ends bit next) (length_at p b2 b1 bit next behind) (length_at p b3 b2 b1 bit next)

-- how many end there
unfoldable pub cells_at : Bool → Bool → Bool → ℕ
cells_at b1 bit next = cond (ends b1 bit && ends bit next) 2 1

-- ---- by windows: the six bits as a number

abbrev pub bit_at : ℕ → ℕ → Bool
bit_at n weight = eqb (n / weight % 2) 1

-- by the bits of a window
abbrev pub by_bits : {A : Type 0} → (Bool → Bool → Bool → Bool → Bool → Bool → A) → ℕ → A
by_bits f w = f (bit_at w 32) (bit_at w 16) (bit_at w 8) (bit_at w 4) (bit_at w 2) (bit_at w 1)

unfoldable pub cells_in : ℕ → ℕ
cells_in w = cells_at (bit_at w 8) (bit_at w 4) (bit_at w 2)

-- at 2 × the window the first length, and behind it the last
unfoldable pub entry_at : Profile → ℕ → ℕ
entry_at p k = cond (eqb (k % 2) 0) (by_bits (first_length p) (k / 2)) (by_bits (last_length p) (k / 2))

unfoldable pub window_table : Profile → List ℕ
window_table p = tabulated (entry_at p) 0 128

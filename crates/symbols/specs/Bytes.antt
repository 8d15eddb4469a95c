-- Document 01, "From bits to cells", reading: bytes and marks of the bits that were read. No lemmas here.
use Rattle.std.specs.Prelude.{ℕ, suc, ◌+◌, ◌*◌, Bool, true, false, cond, not, ◌&&◌, ◌||◌, List, [], ◌∷◌, ◌++◌, map, ◌==◌}
use Rattle.lists.specs.Place.{anywhere}
use Rattle.symbols.specs.Bits.{Bit, O, I, G}

-- a bit as a digit
abbrev pub digit : Bit → ℕ
digit O = 0
digit I = 1
digit G = 0

-- the number that bits are, most significant first, after the bits of n
unfoldable pub number_from : ℕ → List Bit → ℕ
number_from n [] = n
number_from n (b ∷ bs) = number_from (n * 2 + digit b) bs

abbrev pub is_gap : Bit → Bool
is_gap O = false
is_gap I = false
is_gap G = true

-- a mark's gap may only be bits 4 and 5 of A1 or bits 3 and 4 of C2, counted from 0 at the most significant
unfoldable pub gap_in_place : ℕ → ℕ → Bool
gap_in_place byte k = (byte == 0xa1 && k == 4) || (byte == 0xc2 && k == 3)

-- at each of a byte's bits from bit k on, whether it begins a gap out of place
unfoldable pub strays_from : ℕ → ℕ → List Bit → List Bool
strays_from byte k [] = []
strays_from byte k (b ∷ bs) = (is_gap b && not (gap_in_place byte k)) ∷ strays_from byte (suc k) bs

unfoldable pub row_strays : List Bit → List Bool
row_strays row = strays_from (number_from 0 row) 0 row

-- the item that a byte's bits are: a byte that has its gap is the mark
unfoldable pub item_of : List Bit → ℕ
item_of row = cond (anywhere is_gap row) (256 + number_from 0 row) (number_from 0 row)

-- bits in rows of eight; what is left at the end is no byte
unfoldable pub rows_of : List Bit → List (List Bit)
rows_of [] = []
rows_of (a ∷ []) = []
rows_of (a ∷ b ∷ []) = []
rows_of (a ∷ b ∷ c ∷ []) = []
rows_of (a ∷ b ∷ c ∷ d ∷ []) = []
rows_of (a ∷ b ∷ c ∷ d ∷ e ∷ []) = []
rows_of (a ∷ b ∷ c ∷ d ∷ e ∷ f ∷ []) = []
rows_of (a ∷ b ∷ c ∷ d ∷ e ∷ f ∷ g ∷ []) = []
rows_of (a ∷ b ∷ c ∷ d ∷ e ∷ f ∷ g ∷ h ∷ rest) = (a ∷ b ∷ c ∷ d ∷ e ∷ f ∷ g ∷ h ∷ []) ∷ rows_of rest

unfoldable pub strays_of : List (List Bit) → List Bool
strays_of [] = []
strays_of (row ∷ rows) = row_strays row ++ strays_of rows

-- the bits read are a lead 0 and the bytes: the items of the bytes
unfoldable pub items_read : List Bit → List ℕ
items_read [] = []
items_read (lead ∷ bs) = map item_of (rows_of bs)

-- at each of the bits read, whether it begins a gap out of place; on the lead 0 every gap is
unfoldable pub strays_read : List Bit → List Bool
strays_read [] = []
strays_read (lead ∷ bs) = is_gap lead ∷ strays_of (rows_of bs)

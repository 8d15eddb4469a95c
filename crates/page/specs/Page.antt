-- Document 02 (xiv): a page master and its raised dots. No lemmas here.
use Rattle.std.specs.Prelude.{ℕ, suc, ◌-◌, ◌*◌, ◌/◌, ◌%◌, ◌^◌, Bool, not, List, [], ◌∷◌, map, eqb, take, drop}
use Rattle.lists.specs.Place.{anywhere}
use Rattle.lists.specs.Sum.{sum_of}
use Rattle.lists.specs.Table.{tabulated}
use Rattle.sets.specs.Held.{how_many}

-- a page is 25 lines of 40 cells, one byte a cell
abbrev pub page_cells : ℕ
page_cells = 25 * 40

-- then 24 bytes of 00
abbrev pub fill_bytes : ℕ
fill_bytes = 24

-- ---- dots

-- bit 0 for dot 1 up to bit 7 for dot 8
unfoldable pub is_raised : ℕ → ℕ → Bool
is_raised cell dot = eqb (cell / 2 ^ (dot - 1) % 2) 1

-- the raised dots of a cell
unfoldable pub dots_of_cell : ℕ → ℕ
dots_of_cell cell = how_many (is_raised cell) (1 ∷ 2 ∷ 3 ∷ 4 ∷ 5 ∷ 6 ∷ 7 ∷ 8 ∷ [])

-- and of cells
unfoldable pub dots_of : List ℕ → ℕ
dots_of cells = sum_of (map dots_of_cell cells)

-- ---- pages

-- the numbers of the pages: 1 to p
unfoldable pub page_numbers : ℕ → List ℕ
page_numbers p = tabulated suc 0 p

-- a page's cells in the data of its sector, and what stands behind them
unfoldable pub cells_in : List ℕ → List ℕ
cells_in bytes = take page_cells bytes

unfoldable pub fill_in : List ℕ → List ℕ
fill_in bytes = drop page_cells bytes

-- a byte that is not 00
unfoldable pub is_dirt : ℕ → Bool
is_dirt byte = not (eqb byte 0x00)

-- the last bytes are not all 00
unfoldable pub is_soiled : List ℕ → Bool
is_soiled bytes = anywhere is_dirt (fill_in bytes)

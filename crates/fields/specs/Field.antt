-- Document 01, "Finding and reading a field": the intervals that a field uses and what they read as. No lemmas here.
use Rattle.std.specs.Prelude.{ℕ, zero, suc, ◌+◌, ◌-◌, ◌*◌, Bool, List, [], ◌∷◌, eqb, length, get_or, take}
use Rattle.lists.specs.Place.{anywhere, lowest, passed}
use Rattle.refusal.specs.Answer.{Answer, accepted, refused}
use Rattle.timing.specs.declared.Class.{Class}
use Rattle.items.specs.Written.{fresh_check, after_bytes}
use Rattle.symbols.specs.Bits.{Bit, O}
use Rattle.symbols.specs.Reading.{given, last_after, read_bits, sources}
use Rattle.symbols.specs.Bytes.{items_read, strays_read}
use Rattle.symbols.specs.declared.Cell.{Cell}
use Rattle.intervals.specs.Cells.{by_class}

-- the bits that are still wanted after a cell
abbrev pub wanted_after : ℕ → Bit → Cell → ℕ
wanted_after want b c = want - length (given b c)

-- intervals are used, with the last bit known, until the wanted bits are known: their cells
unfoldable pub cells_taken : List Class → ℕ → Bit → List Cell
cells_taken [] want b = []
cells_taken (c ∷ cs) zero b = []
cells_taken (c ∷ cs) (suc want) b =
    by_class c [] (λ (x : Cell). x ∷ cells_taken cs (wanted_after (suc want) b x) (last_after b x)) []

-- 5, narrow, 6, wide, or 11, short, as first met on the way, the first interval having place k
unfoldable pub stop_from : List Class → ℕ → ℕ → Bit → Answer
stop_from [] k zero b = accepted 0
stop_from [] k (suc want) b = refused 11 0
stop_from (c ∷ cs) k zero b = accepted 0
stop_from (c ∷ cs) k (suc want) b =
    by_class c
    (refused 5 k)
    (λ (x : Cell). stop_from cs (suc k) (wanted_after (suc want) b x) (last_after b x))
    (refused 6 k)

-- the lead 0 and n bytes
abbrev pub bits_wanted : ℕ → ℕ
bits_wanted n = 1 + 8 * n

-- a field of n bytes at the front of a list, the last bit known being 0
unfoldable pub field_stop : List Class → ℕ → Answer
field_stop cs n = stop_from cs 0 (bits_wanted n) O

unfoldable pub field_cells : List Class → ℕ → List Cell
field_cells cs n = cells_taken cs (bits_wanted n) O

-- the number of intervals used
unfoldable pub field_used : List Class → ℕ → ℕ
field_used cs n = length (field_cells cs n)

-- a surplus bit is dropped
unfoldable pub field_bits : List Class → ℕ → List Bit
field_bits cs n = take (bits_wanted n) (read_bits (field_cells cs n))

unfoldable pub field_items : List Class → ℕ → List ℕ
field_items cs n = items_read (field_bits cs n)

-- the register is zero after items
unfoldable pub holds_after : List ℕ → Bool
holds_after items = eqb (after_bytes fresh_check items).register 0

unfoldable pub field_holds : List Class → ℕ → Bool
field_holds cs n = holds_after (field_items cs n)

-- 8, stray: a gap out of place in the used intervals, and the interval that gave the lowest
unfoldable pub field_stray : List Class → ℕ → Bool
field_stray cs n = anywhere passed (strays_read (field_bits cs n))

unfoldable pub field_stray_place : List Class → ℕ → ℕ
field_stray_place cs n = get_or (sources (field_cells cs n)) (lowest passed (strays_read (field_bits cs n))) 0

-- Document 01, "Turned-away numbers", strip reader: what the cells of a strip read as, from 7 on. No lemmas here.
use Rattle.std.specs.Prelude.{ℕ, ◌/◌, ◌%◌, Bool, not, ◌||◌, List, length, ◌==◌, nat_lt, slice_index}
use Rattle.lists.specs.Place.{anywhere, lowest, passed}
use Rattle.refusal.specs.Answer.{Answer, accepted, refuse_if}
use Rattle.symbols.specs.Bits.{Bit, O, is_one, last_of}
use Rattle.symbols.specs.Reading.{read_bits, sources}
use Rattle.symbols.specs.Bytes.{items_read, strays_read}
use Rattle.symbols.specs.declared.Cell.{Cell}

-- the last of some bits is 1
unfoldable pub ends_in_one : List Bit → Bool
ends_in_one bs = is_one (last_of O bs)

-- 7, ragged: the bits are not 8n + 2, or the last is 1
unfoldable pub is_ragged : List Bit → Bool
is_ragged bs = not (length bs % 8 == 2) || ends_in_one bs

-- n, of 8n + 2 bits
abbrev pub bytes_read : List Bit → ℕ
bytes_read bs = length bs / 8

-- 8, stray: the place of the cell that gave the lowest bit at which a gap out of place begins
unfoldable pub stray_place : List Cell → ℕ
stray_place cs = slice_index (sources cs) (lowest passed (strays_read (read_bits cs)))

unfoldable pub is_stray : List Bit → Bool
is_stray bs = anywhere passed (strays_read bs)

-- 7, then 4 (over 6,400 bytes read), then 8; else the number of items
unfoldable pub strip_rule : List Cell → Answer
strip_rule cs =
    refuse_if (is_ragged (read_bits cs)) 7 0
    (refuse_if (nat_lt 6400 (bytes_read (read_bits cs))) 4 0
    (refuse_if (is_stray (read_bits cs)) 8 (stray_place cs)
    (accepted (bytes_read (read_bits cs)))))

-- the list of data and mark bytes that the cells of a strip read as
unfoldable pub strip_items : List Cell → List ℕ
strip_items cs = items_read (read_bits cs)

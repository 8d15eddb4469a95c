-- The cells of document 01's settled cases, and what reads as no strip, by computing the definitions.
use Rattle.std.proofs.Common.{◌≡◌, [], ◌∷◌, map, refl}
use Rattle.lists.specs.Place.{anywhere, lowest}
use Rattle.items.specs.Item.{is_mark}
use Rattle.refusal.specs.Answer.{accepted, refused}
use Rattle.symbols.specs.Bits.{byte_bits, with_gaps, mark_bits, written_bits, all_bits, bits_of, last_of}
use Rattle.symbols.specs.Cells.{pair_symbols, symbols_from, symbols_of, cells_from, cells_of}
use Rattle.symbols.specs.Cells.{written_symbols, written_cells}
use Rattle.symbols.specs.Reading.{given, last_after, read_from, read_bits, source_of, sources_from, sources}
use Rattle.symbols.specs.Bytes.{number_from, gap_in_place, strays_from, row_strays, rows_of, strays_of, strays_read}
use Rattle.symbols.specs.Strip.{ends_in_one, is_ragged, is_stray, stray_place, strip_rule}
use Rattle.symbols.specs.declared.Cell.TheVariants.{Short, Long}

-- no byte; data 00, FF and A1; marks A1 and C2
settled_cells :
    map written_cells ([] ∷ (0x00 ∷ []) ∷ (0xff ∷ []) ∷ (0xa1 ∷ []) ∷ (0x1a1 ∷ []) ∷ (0x1c2 ∷ []) ∷ [])
    ≡ (2 ∷ 2 ∷ [])
    ∷ (2 ∷ 2 ∷ 2 ∷ 2 ∷ 2 ∷ 2 ∷ 2 ∷ 2 ∷ 2 ∷ 2 ∷ [])
    ∷ (3 ∷ 2 ∷ 2 ∷ 2 ∷ 2 ∷ 2 ∷ 2 ∷ 2 ∷ 3 ∷ [])
    ∷ (3 ∷ 4 ∷ 3 ∷ 2 ∷ 2 ∷ 3 ∷ 3 ∷ [])
    ∷ (3 ∷ 4 ∷ 3 ∷ 4 ∷ 3 ∷ 3 ∷ [])
    ∷ (3 ∷ 2 ∷ 3 ∷ 4 ∷ 3 ∷ 3 ∷ 2 ∷ [])
    ∷ []
unfolding written_cells written_symbols bits_of all_bits written_bits is_mark mark_bits with_gaps byte_bits symbols_of symbols_from
    pair_symbols cells_of cells_from
settled_cells = refl

-- no cell; a lead and a closing 0; a gap on the lead 0; a gap in a byte 00, at the cell that gave it
settled_strips :
    map strip_rule ([]
    ∷ (Short ∷ Short ∷ [])
    ∷ (Long ∷ [])
    ∷ (Short ∷ Short ∷ Long ∷ Short ∷ Short ∷ Short ∷ Short ∷ Short ∷ Short ∷ [])
    ∷ [])
    ≡ refused 7 0 ∷ accepted 0 ∷ refused 8 0 ∷ refused 8 2 ∷ []
unfolding strip_rule is_ragged ends_in_one last_of is_stray stray_place sources sources_from source_of read_bits read_from given
    last_after strays_read strays_of rows_of row_strays strays_from gap_in_place number_from anywhere lowest
settled_strips = refl

-- The page with every dot raised: the definitions compute to its classes, which are no lock. Rests on no axiom.
use mathlib.Core.Path.{refl}
use Rattle.lists.specs.Place.{anywhere}
use Rattle.timing.specs.Class.{cursor_of, at_start, class_in, behind, cursor_past, classes_from, classes_of}
use Rattle.items.specs.Item.{is_mark, is_check}
use Rattle.items.specs.Written.{item_bytes, written_from, written}
use Rattle.symbols.specs.Bits.{byte_bits, with_gaps, mark_bits, written_bits, all_bits, bits_of}
use Rattle.symbols.specs.Cells.{pair_symbols, symbols_from, symbols_of, written_symbols}
use Rattle.lengths.specs.Lengths.{point, symbol_after, cell_length, lengths_from, lengths_of}
use Rattle.lengths.specs.Stream.{byte_stream, stream_of}
use Rattle.locks.specs.Lock.{begins_with, lock_patterns, mark_ahead, lock_at}
use Rattle.readback.specs.NoLockInData.{EveryDotRaised}

pub every_dot_raised : EveryDotRaised
unfolding anywhere cursor_of at_start class_in behind cursor_past classes_from classes_of is_mark is_check item_bytes
    written_from written
    byte_bits with_gaps mark_bits written_bits all_bits bits_of pair_symbols symbols_from symbols_of written_symbols point
    symbol_after cell_length lengths_from lengths_of byte_stream stream_of begins_with lock_patterns mark_ahead lock_at
every_dot_raised = record { ones = refl; one_mark = refl; no_lock = refl }

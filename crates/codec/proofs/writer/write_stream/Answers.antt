-- Why `codec::writer::write_stream` stores the stream: the bytes, then the two closing 0s, and there are as many
-- places. Rests on no axiom.
use Rattle.codec.proofs.WriterLaws.{items_fit, closing_fits, stream_is_written}
use Rattle.codec.proofs.writer.write_stream.Goals as goal

pub write_items-pen-requires : goal.write_items-pen-requires
write_items-pen-requires c = items_fit _ _ _ _ c.window_table-table.ensures c.requires.value c.requires.in_bounds

pub draw_closing-requires : goal.draw_closing-requires
draw_closing-requires c =
    closing_fits _ _ _ _ c.window_table-table.ensures c.requires.value c.requires.in_bounds _ c.write_items-pen.ensures

pub returns : goal.returns
returns c =
    let both = stream_is_written _ _ _ _ c.window_table-table.ensures c.requires.value c.requires.in_bounds _ _ _ c.write_items-pen.ensures
    c.draw_closing.ensures in record { length = both.0; output = both.1 }

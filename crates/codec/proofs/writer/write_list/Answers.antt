-- Why `codec::writer::write_list` answers `write_rule`: profile and list are accepted, and the stream is stored where it
-- has room. Rests on no axiom.
use mathlib.Core.Path.{sym, ◌∙◌}
use Rattle.codec.proofs.WriterLaws.{too_short, stream_fits, long_enough}
use Rattle.codec.proofs.writer.write_list.Goals as goal

pub write_stream-count-requires : goal.write_stream-count-requires
write_stream-count-requires c =
    let room = sym c.has_room.ensures ∙ c.if-has_room.true in
    record {
      p_value = c.requires.p_value;
      value = c.requires.value;
      in_bounds = stream_fits c.args.p _ c.args.out.now room;
    }

pub returns-then-has_room : goal.returns-then-has_room
returns-then-has_room c =
    let count = c.write_stream-count.ensures.length in
    let output = c.write_stream-count.ensures.output in
    let room = sym c.has_room.ensures ∙ c.if-has_room.true in
    let both = long_enough _ _ c.args.out.now c.requires.p_value c.requires.value room _ _ count output in
    record {
      answer = both.0;
      output = both.1;
    }

pub returns : goal.returns
returns c =
    let both = too_short _ _ c.args.out.now c.requires.p_value c.requires.value
    (sym c.has_room.ensures ∙ c.if-has_room.false) in record { answer = both.0; output = both.1 }

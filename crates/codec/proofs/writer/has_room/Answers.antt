-- Why `codec::writer::has_room` answers whether the stream has room: its cells are counted, but where there is room for
-- as many as so many bytes can end. Rests on no axiom.
use mathlib.Core.Path.{sym}
use native.Mathlib.Omega.{arith}
use borrow.Author.Tests.{le-leb}
use Rattle.items.specs.Written.{written}
use Rattle.items.proofs.RuleLaws.{listed}
use Rattle.items.proofs.WrittenLaws.{length_of_written}
use Rattle.symbols.proofs.UnitLaws.{cells_at_most}
use Rattle.codec.proofs.writer.has_room.Goals as goal

pub overflow_mul-bytes : goal.overflow_mul-bytes
overflow_mul-bytes c = omega (arith, (listed _ c.requires.value).few_bytes)

pub overflow_add-bytes : goal.overflow_add-bytes
overflow_add-bytes c = omega (arith, (listed _ c.requires.value).few_bytes)

pub returns-then-bytes-room : goal.returns-then-bytes-room
returns-then-bytes-room c =
    let start = c.args in
    let bytes = written start.items.now in
    let many = length_of_written start.items.now in
    let few = cells_at_most bytes in
    sym (le-leb _ start.room (omega (arith, c.requires.bytes_value)))

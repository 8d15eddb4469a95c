-- Why `text::append_line` stores a line: its word, its fields and a line feed go one after the other. Rests on no
-- axiom.
use native.Mathlib.Omega.{arith}
use Rattle.text.proofs.LineLaws.{line_length, line_stored}
use Rattle.text.proofs.print.append_line.Goals as goal

pub append-fields-requires : goal.append-fields-requires
append-fields-requires c = omega (arith, rw line_length at c.requires)

pub append_fields-end-requires : goal.append_fields-end-requires
append_fields-end-requires c = omega (arith, rw line_length at c.requires)

pub append-requires : goal.append-requires
append-requires c = omega (arith, rw line_length at c.requires)

pub returns : goal.returns
returns c =
    let end = c.append in
    record {
      value = rw line_length (omega (arith, end.ensures.value));
      out_after = rw (
        end.ensures.out_after,
        c.append_fields-end.ensures.out_after,
        c.append_fields-end.ensures.value,
        c.append-fields.ensures.out_after,
        c.append-fields.ensures.value,
      ) (line_stored _ _ _ _);
    }

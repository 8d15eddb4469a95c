-- Why `strip::append_cell` stores the line of a cell: its numbers are the place, the number of the class and the
-- interval. Rests on no axiom.
use Rattle.strip.specs.Output.{cell_text}
use Rattle.strip.proofs.output.append_cell.Goals as goal

pub append_line-requires : goal.append_line-requires
unfolding cell_text
append_line-requires c = rw c.number-number.ensures c.requires

pub returns : goal.returns
unfolding cell_text
returns c =
    let number = c.number-number.ensures in
    record {
      value = rw number at c.append_line.ensures.value;
      out_after = rw number at c.append_line.ensures.out_after;
    }

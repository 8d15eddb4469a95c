-- Why `look::look_block` sees its intervals: the units that it stores are those that it looks at. Rests on no axiom.
use Rattle.std.proofs.Common.{arith}
use Rattle.timing.proofs.UnitsLaws.{units_count}
use Rattle.intervals.proofs.TakenAsLaws.{units_are_cells}
use Rattle.passes.proofs.look.look_block.Goals as goal

pub look_units-seen-requires : goal.look_units-seen-requires
look_units-seen-requires c =
    let count = units_count c.args.at.cursor c.args.intervals.now in
    let (same, few) = c.requires.units_len in
    record {
      units_len_bound = rw c.units_of-cursor.ensures.units (omega (arith, same, few, count));
      all_cells = rw c.units_of-cursor.ensures.units (units_are_cells _ _, c.requires.words_lt_most.1, c.requires.words_lt_most.0);
      units_bound = rw c.units_of-cursor.ensures.units (omega (arith, c.requires.intervals_bound, count));
    }

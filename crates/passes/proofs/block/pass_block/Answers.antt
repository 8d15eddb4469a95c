-- Why `block::pass_block` gives `pass_on`: the units that it stores are those that it shifts in. Rests on no axiom.
use Rattle.std.proofs.Common.{arith}
use Rattle.timing.proofs.UnitsLaws.{units_count}
use Rattle.intervals.proofs.TakenAsLaws.{units_are_cells}
use Rattle.passes.proofs.block.pass_block.Goals as goal

pub shift_units-requires : goal.shift_units-requires
shift_units-requires c =
    let count = units_count c.args.at.cursor c.args.intervals.now in
    let (same, few) = c.requires.units_len in
    record {
      units_len_bound = rw c.units_of-cursor.ensures.units (omega (arith, same, few));
      all_cells = rw c.units_of-cursor.ensures.units (units_are_cells _ _, c.requires.words_lt_most.1, c.requires.words_lt_most.0);
      units_bound = rw c.units_of-cursor.ensures.units (omega (arith, c.requires.intervals_bound.0), omega (arith, c.requires.intervals_bound.1));
    }

-- Why `fours::shift_eights` gives `fours_from`: each turn it takes two fours, and what is left stays the same; the last
-- sixteen cells have the half cells of the register. Rests on no axiom.
use Rattle.std.proofs.Common.{ℕ, sym, refl, ◌∙◌, arith, length-set}
use Rattle.lists.proofs.BoolLaws.{one_at_most}
use Rattle.shifts.proofs.ShiftEightsTopped.{top_begins_with, top_goes_on, top_ends}
use Rattle.shifts.proofs.fours.shift_eights.Goals as goal

pub loop-i-init : goal.loop-i-init
loop-i-init c = top_begins_with _ _ _ _ _ c.requires.le_eights.1 c.requires.le_held (omega arith) c.top_of-t.ensures

pub add_four-requires : goal.add_four-requires
add_four-requires c = omega (arith, c.loop-i-test.true, c.requires.all_cells.1)

pub add_four-eight-requires : goal.add_four-eight-requires
add_four-eight-requires c = omega (arith, c.loop-i-test.true, c.requires.all_cells.1)

pub bounds-words-count : goal.bounds-words-count
bounds-words-count c =
    let on = c.loop-i.invariant.so_far in
    omega (arith, on.few, on.size, c.loop-i-test.true)

pub bounds-words-count-in-loop-i : goal.bounds-words-count-in-loop-i
bounds-words-count-in-loop-i c =
    let turn = c.loop-i in
    let on = turn.invariant.so_far in
    let same = length-set {A = ℕ} turn.words turn.count c.top_word.result in
    omega (arith, on.few, on.size, c.loop-i-test.true, same)

pub overflow_add-count : goal.overflow_add-count
overflow_add-count c = omega (arith, one_at_most c.is_whole.result)

pub overflow_add-count-in-loop-i : goal.overflow_add-count-in-loop-i
overflow_add-count-in-loop-i c =
    let on = c.loop-i.invariant.so_far in
    omega (arith, on.few, c.loop-i-test.true, c.requires.all_cells.1, one_at_most c.is_whole.result)

pub loop-i-preserved : goal.loop-i-preserved
loop-i-preserved c =
    top_goes_on _ _ _ _ _ _ _ c.loop-i.invariant c.loop-i-test.true c.requires.all_cells _ _ _ _ _ _ _
    c.add_four.ensures c.add_four-eight.ensures
    c.past_word-next.ensures c.top_word.ensures c.top_word-in-loop-i.ensures
    c.is_whole.ensures c.ease-t.ensures

pub overflow_sub-units : goal.overflow_sub-units
overflow_sub-units c = omega (arith, c.requires.all_cells.1, c.requires.le_eights.0)

pub last_bits-requires : goal.last_bits-requires
last_bits-requires c = omega (arith, c.requires.all_cells.1, c.requires.le_eights.0)

pub overflow_sub-reading : goal.overflow_sub-reading
overflow_sub-reading c = omega (arith, c.loop-i.invariant.top.free)

pub shape_of-words : goal.shape_of-words
shape_of-words c = c.loop-i.invariant.so_far.size ∙ sym c.requires.le_eights.1

pub returns : goal.returns
returns c =
    let both = top_ends _ _ _ _ _ _ _ c.loop-i.invariant c.loop-i-test.false c.requires.all_cells
    c.requires.le_eights.0 _ _ _ c.last_bits.ensures refl refl in
    record {
      reading = both.0;
      words = both.1;
    }

-- Why `locks::finder::three_marks_ahead` answers `begins_with three_marks`: it tries that pattern from the first interval
-- on. Rests on no axiom.
use Rattle.timing.specs.Class.{classes_of}
use Rattle.locks.specs.machine.Marks.{three_marks}
use Rattle.locks.proofs.finder.three_marks_ahead.Goals as goal

pub returns : goal.returns
unfolding three_marks classes_of
returns c = rw (← c.start.ensures) c.begins_with.ensures

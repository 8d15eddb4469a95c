use Rattle.std.proofs.Common.{◌≡◌, ◌&&◌, drop}
use Rattle.lists.specs.Place.{everywhere}
use Rattle.half_cells.specs.machine.Word.{fits}
use Rattle.shifts.proofs.fours.all_fit.Given as goal

abbrev pub invariant-loop-word : goal.invariant-loop-word
invariant-loop-word l = (l.all && everywhere fits (drop l.word-index l.words)) ≡ everywhere fits l.words

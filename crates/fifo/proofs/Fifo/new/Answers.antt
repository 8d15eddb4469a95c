-- Why `new` answers `fresh`: 0 held is the empty list.
use mathlib.Core.Path.{refl}
use Rattle.fifo.specs.State.{held_items}
use Rattle.fifo.proofs.Fifo.new.Goals as goal

pub returns : goal.returns
unfolding held_items
returns c = record { state = refl }

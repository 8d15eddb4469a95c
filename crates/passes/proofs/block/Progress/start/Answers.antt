-- Why `Progress::start` is `at_first`: both readings and both cursors are those before any interval. Rests on no axiom.
use Rattle.std.proofs.Common.{refl}
use Rattle.passes.specs.machine.Blocks.{at_first}
use Rattle.passes.proofs.block.Progress.start.Goals as goal

pub returns : goal.returns
unfolding at_first
returns c = rw (c.start.ensures, c.new.ensures) refl

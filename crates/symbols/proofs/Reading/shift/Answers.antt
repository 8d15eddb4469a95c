-- Why `Reading::shift` gives `shifted`: both shift, set the lowest bit and count.
use Rattle.std.proofs.Common.{refl}
use Rattle.symbols.specs.machine.Step.{shifted}
use Rattle.symbols.proofs.Reading.shift.Goals as goal

pub returns : goal.returns
unfolding shifted
returns c = refl

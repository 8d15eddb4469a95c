-- `is_check` makes the definition's own test.
use mathlib.Core.Path.{refl}
use Rattle.items.specs.Item.{is_check}
use Rattle.items.proofs.is_check.Goals as goal

pub returns : goal.returns
unfolding is_check
returns c = refl

-- `items::put` is one store. Rests on no axiom.
use mathlib.Core.Path.{refl, sym, ◌∙◌}
use Rattle.lists.proofs.StoreLaws.{stored_one}
use Rattle.script.proofs.items.put.Goals as goal

pub returns : goal.returns
returns c = record { next = refl; output = c.put.ensures ∙ sym (stored_one _ _ _) }

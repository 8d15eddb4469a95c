-- Why `sectors::repeat` stores the item `count` times: the part of the output that it fills is as long. Rests on no
-- axiom.
use Rattle.sectors.proofs.FillLaws.{filled_part_is_stored}
use Rattle.sectors.proofs.repeat.Goals as goal

pub returns-clause-output : goal.returns-clause-output
returns-clause-output c = filled_part_is_stored _ _ _ _ _ c.requires (c.fill.ensures.after (λ y same. same))

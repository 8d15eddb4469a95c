-- Why `top::top_of` has the register's half cells at the top: what is above them is shifted out. Rests on no axiom.
use Rattle.std.proofs.Common.{refl}
use Rattle.shifts.proofs.TopLaws.{top_begins}
use Rattle.shifts.proofs.top.top_of.Goals as goal

pub returns : goal.returns
returns c = top_begins _ _ c.requires refl refl

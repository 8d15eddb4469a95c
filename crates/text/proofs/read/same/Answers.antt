-- Why `text::same` answers whether two texts are the same: equality compares byte by byte. Rests on no axiom.
use mathlib.Core.Path.{◌∙◌}
use Rattle.text.proofs.SameLaws.{equal_texts_are_same}
use Rattle.text.proofs.read.same.Goals as goal

pub returns : goal.returns
returns c = c.eq.ensures ∙ equal_texts_are_same _ _

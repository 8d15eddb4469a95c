-- Why `id::identify` answers `identified`: by whether the items identify. Rests on no axiom.
use mathlib.Core.Path.{sym, ◌∙◌}
use Rattle.entries.specs.machine.Steps.{identified}
use Rattle.entries.proofs.id.identify.Goals as goal

pub four_bytes-requires : goal.four_bytes-requires
four_bytes-requires c = (c.requires, cc)

pub returns-then-is_identity : goal.returns-then-is_identity
unfolding identified
returns-then-is_identity c = rw (sym c.is_identity.ensures ∙ c.if-is_identity.true, c.four_bytes.ensures)

pub returns : goal.returns
unfolding identified
returns c = rw (sym c.is_identity.ensures ∙ c.if-is_identity.false)

-- Why `id::is_identity` answers `identifies`: it makes the same tests. Rests on no axiom.
use Rattle.entries.specs.FieldKinds.{identifies}
use Rattle.entries.proofs.id.is_identity.Goals as goal

pub returns : goal.returns
unfolding identifies
returns c = rw c.opens_with.ensures

-- Why `id::four_bytes` answers `id_with`: each of the four is a data byte and fits. Rests on no axiom.
use native.Mathlib.Omega.{arith}
use Rattle.entries.proofs.IdLaws.{identity_has_data_bytes}
use Rattle.entries.proofs.id.four_bytes.Goals as goal

pub overflow_cast-result : goal.overflow_cast-result
overflow_cast-result c = omega (arith, (identity_has_data_bytes _ c.requires.1).0)

pub overflow_cast-result-2 : goal.overflow_cast-result-2
overflow_cast-result-2 c = omega (arith, (identity_has_data_bytes _ c.requires.1).1)

pub overflow_cast-result-3 : goal.overflow_cast-result-3
overflow_cast-result-3 c = omega (arith, (identity_has_data_bytes _ c.requires.1).2)

pub overflow_cast-result-4 : goal.overflow_cast-result-4
overflow_cast-result-4 c = omega (arith, (identity_has_data_bytes _ c.requires.1).3)

-- Why `entry_size` answers `size_of`: by whether the entry has data. Rests on no axiom.
use Prim.Native.Nat.{◌+◌}
use mathlib.Core.Path.{ap, ◌∙◌}
use native.Mathlib.Omega.{arith}
use Rattle.sectors.proofs.SectorCounts.{size_at_most_1024}
use Rattle.track_set.proofs.HandedLaws.{size_without_data, size_with_data}
use Rattle.track_set.proofs.entry_size.Goals as goal

pub returns-then-entry-eq0 : goal.returns-then-entry-eq0
returns-then-entry-eq0 c = size_without_data _ c.if-entry-eq0.true

pub overflow_add-result : goal.overflow_add-result
overflow_add-result c = record { fits = omega (arith, c.sector_size.ensures, size_at_most_1024 c.args.entry.code) }

pub returns : goal.returns
returns c = ap (λ n. 3 + n) c.sector_size.ensures ∙ size_with_data _ c.if-entry-eq0.false

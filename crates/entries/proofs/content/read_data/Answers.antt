-- Why `content::read_data` answers `data_read`: a field has so many bytes of every code. Rests on no axiom.
use Prim.Native.Nat.{ℕ}
use mathlib.Core.Path.{ap, ◌∙◌}
use native.Mathlib.Omega.{arith}
use Rattle.sectors.proofs.SectorCounts.{size_at_most_1024}
use Rattle.entries.specs.FieldKinds.{data_bytes}
use Rattle.entries.specs.machine.Steps.{opened_of, data_read}
use Rattle.entries.proofs.content.read_data.Goals as goal

pub overflow_add-n : goal.overflow_add-n
overflow_add-n c = omega (arith, size_at_most_1024 c.args.code)

pub read_opened-requires : goal.read_opened-requires
read_opened-requires c =
    let few = size_at_most_1024 c.args.code in
    record { p_value = c.requires; in_bounds = (omega arith, omega arith, omega arith) }

pub returns : goal.returns
unfolding data_read data_bytes
returns c =
    let args = c.args in
    c.read_opened.ensures.answer
    ∙ ap (λ (n : ℕ). opened_of args.p args.intervals.now n 0xfb) (omega arith)

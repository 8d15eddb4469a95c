-- How many bytes 32 sectors can have: each has three and its data, at most 1,024. Rests on no axiom.
use Prim.Native.Nat.{ℕ, ◌*◌, ◌≤◌}
use mathlib.Core.Path.{◌≡◌}
use mathlib.Core.Bool.{false}
use mathlib.Core.List.{List}
use native.Mathlib.Omega.{arith}
use lib.ListN.{length, length-drop}
use Rattle.sectors.specs.Sector.{sector_size}
use Rattle.sectors.proofs.SectorCounts.{size_at_most_1024}
use Rattle.sets.specs.Set.{is_misfit_set, sectors_in}
use Rattle.sets.proofs.FormLaws.{fits_is_some, read_holds}

pub set_is_short : (bs : List ℕ) → is_misfit_set bs ≡ false → length (sectors_in bs) ≤ 32 → length bs ≤ 32864
set_is_short bs e h =
    let few =
    read_holds (λ ss bs. length bs ≤ 1027 * length ss) (omega arith)
    (λ a b s rest ss h k r. omega (arith, length-drop (sector_size b) rest, size_at_most_1024 b, r)) bs _
    (fits_is_some bs e) in
    omega arith

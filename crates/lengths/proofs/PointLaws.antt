-- Every compare point of an accepted profile lies between Early and Late: it is one of the three. Rests on no axiom.
use Prim.Native.Nat.{ℕ, ◌≤◌}
use mathlib.Core.Path.{◌≡◌}
use mathlib.Core.Bool.{Bool, true, false}
use native.Mathlib.Omega.{arith}
use Rattle.timing.specs.declared.Profile.{Profile}
use Rattle.timing.proofs.ProfileLaws.{Kept}
use Rattle.lengths.specs.Lengths.{point}

pub point_is_in_range :
    {p : Profile}
    → Kept p
    → (before after : Bool)
    → (p.early.0 ≤ point p before after) × (point p before after ≤ p.late.0)
unfolding point
point_is_in_range k true true = omega arith
point_is_in_range k true false = omega arith
point_is_in_range k false true = omega arith
point_is_in_range k false false = omega arith

-- as a caller of `point` has it
pub answered_point_is_in_range
    : {p : Profile}
    → Kept p
    → (before after : Bool) (at : ℕ)
    → at ≡ point p before after
    → (p.early.0 ≤ at) × (at ≤ p.late.0)
answered_point_is_in_range k before after at e = rw e (point_is_in_range k before after)

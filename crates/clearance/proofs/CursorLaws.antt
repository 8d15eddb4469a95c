-- Under an accepted profile the edges ascend, since the lengths of the cells lie between them, wherever the classing
-- of a list stands. Rests on no axiom.
use Rattle.std.proofs.Common.{◌≡◌, ℕ, Bool, List, [], ◌∷◌, arith}
use Rattle.timing.specs.Profile.{profile_rule}
use Rattle.timing.specs.Class.{cursor_of, Ascending, behind, cursor_past, cursor_after}
use Rattle.timing.specs.declared.Profile.{Profile}
use Rattle.timing.specs.declared.cursor.Cursor.{Cursor}
use Rattle.timing.proofs.ProfileLaws.{kept}
use Rattle.timing.proofs.EdgeLaws.{either_ascends, ascending_past}
use Rattle.clearance.specs.machine.Nearest.{Reachable}

pub reachable : (p : Profile) (two : Bool) → (profile_rule p).number ≡ 0 → Reachable (cursor_of p two)
unfolding cursor_of
reachable p two accepts =
    let k = kept p accepts in
    record { first = omega (arith, k.ranges); edges = either_ascends p two accepts; last = omega (arith, k.ranges) }

pub reachable_past : (c : Cursor) (d : ℕ) → Reachable c → Reachable (cursor_past c d)
unfolding cursor_past behind
reachable_past c d h = record { first = h.first; edges = ascending_past c d h.edges; last = h.last }

pub reachable_after : {c : Cursor} (ds : List ℕ) → Reachable c → Reachable (cursor_after c ds)
unfolding cursor_after
reachable_after [] h = h
reachable_after {c} (d ∷ ds) h = reachable_after {c = cursor_past c d} ds (reachable_past c d h)

pub ascending_after : {c : Cursor} (ds : List ℕ) → Ascending c → Ascending (cursor_after c ds)
unfolding cursor_after
ascending_after [] h = h
ascending_after {c} (d ∷ ds) h = ascending_after {c = cursor_past c d} ds (ascending_past c d h)

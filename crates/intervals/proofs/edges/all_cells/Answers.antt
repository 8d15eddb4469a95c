-- Why `edges::all_cells` tells whether all are cells: in a profile that is accepted Min is below Rpt, and they tell of
-- all classes. Rests on no axiom.
use Rattle.std.proofs.Common.{◌≡◌, ◌-◌, ◌<◌, ◌∙◌, arith, lt-ltb}
use Rattle.timing.specs.Profile.{profile_rule}
use Rattle.timing.specs.Class.{cursor_of, at_start, classes_of}
use Rattle.timing.specs.declared.Profile.{Profile}
use Rattle.timing.proofs.EdgeLaws.{accepted_ascends}
use Rattle.timing.proofs.ProfileLaws.{kept}
use Rattle.intervals.proofs.InsideLaws.{inside_is_cell}
use Rattle.intervals.proofs.edges.all_cells.Goals as goal

edges_apart : (p : Profile) → (profile_rule p).number ≡ 0 → p.min.0 < p.rpt.0
edges_apart p accepts = let k = kept p accepts in omega arith

pub all_inside-requires : goal.all_inside-requires
all_inside-requires c = omega (arith, edges_apart _ c.requires)

pub returns : goal.returns
unfolding classes_of at_start cursor_of
returns c =
    let p = c.args.p in
    let apart = edges_apart p c.requires in
    rw (lt-ltb 0 (p.rpt.0 - p.min.0) (omega (arith, apart))) at c.all_inside.ensures
    ∙ inside_is_cell (at_start p) _ (accepted_ascends p c.requires)

-- Machine, not meaning: laws tie it to FieldRule (`proofs/gather/gather`). No lemmas here.
use Rattle.std.specs.Prelude.{ℕ, ◌-◌, List, map, ltb}
use Rattle.refusal.specs.Answer.{Answer, accepted, refuse_if}
use Rattle.timing.specs.Class.{at_start}
use Rattle.timing.specs.machine.Edges.{units_from}
use Rattle.timing.specs.declared.Profile.{Profile}
use Rattle.half_cells.specs.machine.Candidate.{candidate}
use Rattle.symbols.specs.machine.Step.{stray_now, place_now}
use Rattle.symbols.specs.declared.Reading.{Reading}
use Rattle.shifts.specs.machine.Pass.{Passed, passed}

-- a pass over the intervals of n bytes, each taken as a cell, and its items
abbrev pub field_passed : Profile → List ℕ → ℕ → Passed
field_passed p ds n = passed n (units_from (at_start p) ds)

abbrev pub items_passed : Profile → List ℕ → ℕ → List ℕ
items_passed p ds n = map candidate (field_passed p ds n).words

-- at the end of a pass over n bytes, with so many intervals used: 11, 8, or how many they are
unfoldable pub end_rule : Reading → ℕ → ℕ → Answer
end_rule m used n =
    refuse_if (ltb m.words n) 11 0
    (refuse_if (stray_now m) 8 (place_now m (used - 1))
    (accepted used))

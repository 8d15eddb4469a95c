-- Why `find_entry` answers `step_from`: by what the finder answers. Rests on no axiom.
use mathlib.Core.Path.{◌∙◌}
use Rattle.entries.proofs.SearchLaws.{search_means}
use Rattle.entries.proofs.StepLaws.{no_lock_is_end, found_is_looked_at}
use Rattle.entries.proofs.find_entry.Goals as goal

pub look_at-requires : goal.look_at-requires
look_at-requires c =
    let found = search_means _ _ _ c.requires _ c.search.ensures _ c.in-Ok.is in
    record { p_value = c.requires; k_in_bounds = found.within }

pub returns-in-Err : goal.returns-in-Err
returns-in-Err c = no_lock_is_end _ _ _ (search_means _ _ _ c.requires _ c.search.ensures _ c.in-Err.is)

pub returns-in-Ok : goal.returns-in-Ok
returns-in-Ok c =
    let found = search_means _ _ _ c.requires _ c.search.ensures _ c.in-Ok.is in
    c.look_at.ensures ∙ found_is_looked_at _ _ _ found

-- Why `units::units_of_sure` gives `units_from` and `cursor_after`: where none lies between the two B23, all but the
-- first two are as behind any kind, and the last tells where the classing stands behind. Rests on no axiom.
use Rattle.std.proofs.Common.{ℕ, false, List, get_or, set, ap, ◌∙◌, ap₂}
use Rattle.timing.specs.Class.{behind, cursor_past}
use Rattle.timing.specs.machine.Edges.{units_in, units_from}
use Rattle.timing.specs.declared.cursor.Cursor.{Cursor}
use Rattle.intervals.proofs.EitherLaws.{block_units, block_cursor}
use Rattle.intervals.proofs.units.units_of_sure.Goals as goal

pub returns : goal.returns
returns c =
    let ds = c.args.intervals.now in
    let from = c.args.start in
    let first = c.units in
    let second = c.units-2 in
    let past = c.past-next in
    let some = c.requires.units_len.1 in
    let sure = c.requires.intervals_value in
    record {
      cursor = c.past.ensures
          ∙ ap₂ cursor_past c.behind.ensures c.last_of.ensures
          ∙ block_cursor from ds some sure;
      units = ap₂ (λ (us : List ℕ) (u : ℕ). set (set us 0 u) 1 second.result) c.fill_behind.ensures first.ensures
          ∙ ap (λ (u : ℕ). set (set (units_from (behind from false) ds) 0 (units_in from (get_or ds 0 0))) 1 u)
          (second.ensures ∙ ap (λ (f : Cursor). units_in f (get_or ds 1 0)) past.ensures)
          ∙ block_units from ds some sure;
    }

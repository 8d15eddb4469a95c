-- Why `units::units_in_turn` stores `units_from`: what is left to store stays the same from turn to turn. Rests on no
-- axiom.
use Rattle.std.proofs.Common.{◌≡◌, ℕ, length, sym, ◌∙◌, add-one, length-set, drop_of_length-le}
use Rattle.lists.proofs.StoreLaws.{stored_none, stored_one, stored_next, stored_over_all}
use Rattle.timing.specs.machine.Edges.{units_from}
use Rattle.timing.proofs.ClassLaws.{cursor_after_none}
use Rattle.timing.proofs.UnitsLaws.{units_none, units_count, units_here, cursor_here}
use Rattle.intervals.proofs.units.units_in_turn.Goals as goal

pub loop-k-preserved : goal.loop-k-preserved
loop-k-preserved c =
    let inv = c.loop-k.invariant in
    let more = c.loop-k-test.true in
    let cursor = c.loop-k.cursor in
    rw (c.past-cursor.ensures, c.units.ensures, add-one) (
      length-set {A = ℕ} c.loop-k.units c.loop-k.k _ ∙ inv.0,
      rw (cursor_here cursor _ _ more) at inv.1,
      stored_next _ _ _ _ _ _ (sym (stored_one _ _ _)) (sym (add-one _)) ∙ rw (units_here cursor _ _ more) at inv.2,
    )

pub returns : goal.returns
returns c =
    let (same, cursor, stored) = c.loop-k.invariant in
    let ds = c.args.intervals.now in
    let none = drop_of_length-le ds {i = c.loop-k.k} c.loop-k-test.false in
    let all = units_from c.args.start ds in
    let room : length all ≡ length c.args.units.now =
    units_count c.args.start ds ∙ sym c.requires in
    record {
      cursor = rw (none, cursor_after_none) at cursor;
      units = sym (stored_none _ _) ∙ rw (none, units_none) at stored ∙ stored_over_all all c.args.units.now room;
    }

-- Why `units::fill_units` stores the units of each: what is left to store stays the same from turn to turn. Rests on no
-- axiom.
use Rattle.std.proofs.Common.{◌≡◌, ℕ, map, length, sym, ◌∙◌, add-one, length-set, drop_of_length-le, drop-cons}
use lib.ListN.{length-map}
use Rattle.lists.proofs.StoreLaws.{stored_none, stored_one, stored_next, stored_over_all}
use Rattle.intervals.specs.machine.Either.{units_by}
use Rattle.intervals.proofs.units.fill_units.Goals as goal

pub loop-k-preserved : goal.loop-k-preserved
loop-k-preserved c =
    let inv = c.loop-k.invariant in
    let more = c.loop-k-test.true in
    let args = c.args in
    rw (c.units_by.ensures, add-one) (
      length-set {A = ℕ} c.loop-k.units c.loop-k.k _ ∙ inv.0,
      stored_next _ _ _ _ _ _ (sym (stored_one _ _ _)) (sym (add-one _))
          ∙ rw (drop-cons args.intervals.now c.loop-k.k 0 more) at inv.1,
    )

pub returns : goal.returns
returns c =
    let (same, stored) = c.loop-k.invariant in
    let ds = c.args.intervals.now in
    let none = drop_of_length-le ds {i = c.loop-k.k} c.loop-k-test.false in
    let all = map (units_by c.args.bounds) ds in
    let room : length all ≡ length c.args.units.now =
    length-map ds (units_by c.args.bounds) ∙ sym c.requires in
    sym (stored_none _ _) ∙ rw none at stored ∙ stored_over_all all c.args.units.now room

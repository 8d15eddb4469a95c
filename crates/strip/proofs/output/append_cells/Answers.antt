-- Why `strip::append_cells` stores the lines of all cells: what is left of them goes to the place reached. Rests on
-- no axiom.
use mathlib.Core.Path.{refl, sym, ◌∙◌, ap}
use native.Mathlib.Numerals.{add-one}
use native.Mathlib.Omega.{arith}
use lib.ListN.{length, get_or}
use Rattle.lists.proofs.StoreLaws.{stored_none}
use Rattle.timing.specs.declared.cursor.Classed.{Classed}
use Rattle.strip.specs.Output.{cell_text}
use Rattle.strip.proofs.OutputLaws.{cells_of_stream, no_cells_left, cells_length_next}
use Rattle.strip.proofs.OutputLaws.{cells_stored_next}
use Rattle.strip.proofs.output.append_cells.Goals as goal

pub loop-place-init : goal.loop-place-init
loop-place-init c = (refl, refl, refl)

pub append_cell-end-requires : goal.append_cell-end-requires
append_cell-end-requires c =
    let stream = c.args.stream.now in
    let l = c.loop-place in
    let all = ap length (cells_of_stream _ _ stream c.start-cursor.ensures) in
    let next = cells_length_next l.cursor stream l.place c.loop-place-test.true in
    let cell = ap (λ (r : Classed). cell_text l.place r.class (get_or stream l.place 0)) c.step-classed.ensures in
    rw cell (omega (arith, all))

pub loop-place-preserved : goal.loop-place-preserved
loop-place-preserved c =
    let stream = c.args.stream.now in
    let l = c.loop-place in
    let call = c.append_cell-end.ensures in
    let cell = ap (λ (r : Classed). cell_text l.place r.class (get_or stream l.place 0)) c.step-classed.ensures in
    let next = ap (λ (r : Classed). r.next) c.step-classed.ensures in
    let long = cells_length_next l.cursor stream l.place c.loop-place-test.true in
    rw (next, add-one l.place) (
      cc,
      omega (arith, ap length cell),
      rw (call.out_after, cell)
          (cells_stored_next _ _ _ c.loop-place-test.true l.out l.end _ (rw cell at call.value) ∙ l.invariant.2),
    )

pub shape_of-out : goal.shape_of-out
shape_of-out c = c.loop-place.invariant.0

pub returns : goal.returns
returns c =
    let stream = c.args.stream.now in
    let all = cells_of_stream _ _ stream c.start-cursor.ensures in
    let none = no_cells_left c.loop-place.cursor stream c.loop-place.place c.loop-place-test.false in
    record {
      value = rw (← all) (omega (arith, ap length none));
      out_after = rw (← all) (sym (stored_none _ _) ∙ rw none at c.loop-place.invariant.2);
    }
